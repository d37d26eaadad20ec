use Rattle.std.proofs.Common.{ℕ, ◌<◌, length}
use Rattle.pg_means_look.specs.Mirrors.Tables.{row_at}
use Rattle.pg_means_look.specs.Mirrors.Places.{behind}
use Rattle.pg_satisfies_check.specs.Mirrors.Lassos.{IsLink}
use Rattle.pg_satisfies_check.proofs.link.are_linked.Given as goal

abbrev pub invariant-loop-place : goal.invariant-loop-place
invariant-loop-place l =
    (i : ℕ) → i < l.place
    → IsLink l.system l.inputs (row_at l.letters (behind (length l.rows) l.back i)) (row_at l.rows i) (row_at l.rows (behind (length l.rows) l.back i))
