use Rattle.pg_solver.proofs.Common.{◌≡◌, ℕ, ◌<◌, false, length, slice_index_or, IsKnownFrom}
use Rattle.pg_solver.proofs.known.known_from.Given as goal

abbrev pub invariant-loop-number : goal.invariant-loop-number
invariant-loop-number l = record {
  size : length l.known.items ≡ l.number;
  each : (v : ℕ) → v < l.number → IsKnownFrom l.map.measures (slice_index_or l.known.items v false) v;
}
