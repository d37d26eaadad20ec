use Rattle.pg_hoa_syntax.proofs.Common.{◌≡◌, ◌++◌, not_ops}
use Rattle.pg_hoa_syntax.proofs.formula.push_nots.Given as goal

abbrev pub invariant-loop : goal.invariant-loop
invariant-loop l = l.ops.items ≡ l.initial.ops.items ++ not_ops l.counter
