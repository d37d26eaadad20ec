use Rattle.pg_map_ranks.proofs.Common.{◌≡◌, ℕ, ◌<◌, length, slice_index_or, IsOrigin}
use Rattle.pg_map_ranks.proofs.table.origins_of.Given as goal

abbrev pub invariant-loop-k : goal.invariant-loop-k
invariant-loop-k l = record {
  each : length l.origins.items ≡ l.k;
  are : (j : ℕ) → j < l.k → IsOrigin l.steps (slice_index_or l.origins.items j 0) j;
}
