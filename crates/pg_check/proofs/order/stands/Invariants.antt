use Rattle.std.proofs.Common.{ℕ, ◌<◌, get_or}
use Rattle.pg_check.proofs.order.stands.Given as goal

abbrev pub invariant-loop-w : goal.invariant-loop-w
invariant-loop-w l = (k d : ℕ) → k < l.w-index → get_or l.order.places.items (get_or l.w-items k d) 0 < l.span.end
