use Rattle.std.specs.Prelude.{◌≡◌}
use Rattle.pg_satisfies.proofs.refuting.is_refuted.Given as goal

abbrev pub invariant-loop-number : goal.invariant-loop-number
invariant-loop-number l = l.steps.system ≡ l.fn.system
