use Rattle.std.proofs.Common.{◌≡◌, ℕ, ◌<◌, Bool, Some}
use Rattle.pg_means_look.specs.Mirrors.Tables.{row_at}
use Rattle.pg_satisfies_check.specs.Mirrors.Known.{known_at}
use Rattle.pg_satisfies_check.proofs.lasso.is_known_on.Given as goal

abbrev pub invariant-loop-row : goal.invariant-loop-row
invariant-loop-row l = (i : ℕ) → i < l.row-index → (b : Bool) × (known_at (row_at l.rows i) l.place ≡ Some b)
