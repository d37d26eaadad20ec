use Rattle.pg_check.proofs.Common.{ℕ, ◌<◌, GoesOn, Stands}
use Rattle.pg_check.proofs.shown.is_shown.Given as goal

abbrev pub invariant-loop-number : goal.invariant-loop-number
invariant-loop-number l = record {
  stands : (v : ℕ) → v < l.number → Stands l.game l.solution l.order.places.items l.order.spans.items v;
  goes_on : (v : ℕ) → v < l.number → GoesOn l.game l.solution l.order.places.items l.split v;
}
