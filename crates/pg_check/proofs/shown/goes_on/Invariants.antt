use Rattle.pg_check.proofs.Common.{ℕ, ◌<◌, get_or, IsOnSide}
use Rattle.pg_check.proofs.shown.goes_on.Given as goal

abbrev pub invariant-loop-w : goal.invariant-loop-w
invariant-loop-w l = (k d : ℕ) → k < l.w-index → IsOnSide l.split l.winner (get_or l.order.places.items (get_or l.edges k d) 0)
