use Rattle.std.proofs.Common.{◌≡◌, take}
use Rattle.pg_satisfies_check.specs.Mirrors.Lassos.{truth_on}
use Rattle.pg_satisfies_check.proofs.lasso.truth.Given as goal

abbrev pub invariant-loop-row : goal.invariant-loop-row
invariant-loop-row l = l.list.items ≡ truth_on (take l.row-index l.rows) l.place
