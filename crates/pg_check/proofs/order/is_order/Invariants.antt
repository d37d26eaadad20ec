use Rattle.pg_check.proofs.Common.{ℕ, ◌<◌, Stands}
use Rattle.pg_check.proofs.order.is_order.Given as goal

abbrev pub invariant-loop-number : goal.invariant-loop-number
invariant-loop-number l = (v : ℕ) → v < l.number → Stands l.game l.solution l.order.places.items l.order.spans.items v
