use Rattle.pg_check.proofs.Common.{◌≡◌, ℕ, ◌<◌, get_or, winner, Counts}
use Rattle.pg_check.proofs.edges.first_leaving.Given as goal

abbrev pub invariant-loop-w : goal.invariant-loop-w
invariant-loop-w l =
    (k d : ℕ) → k < l.w-index → winner l.solution (get_or l.w-items k d) ≡ winner l.solution l.v

abbrev pub invariant-loop-number : goal.invariant-loop-number
invariant-loop-number l =
    (v w : ℕ) → v < l.number → Counts l.game l.solution v w → winner l.solution w ≡ winner l.solution v
