use Rattle.pg_satisfies_check.specs.Mirrors.Known.{IsBlank}
use Rattle.pg_satisfies_check.proofs.rows.blank.Given as goal

abbrev pub invariant-loop-x : goal.invariant-loop-x
invariant-loop-x l = IsBlank l.row.items
