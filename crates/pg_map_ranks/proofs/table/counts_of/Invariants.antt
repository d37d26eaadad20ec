use Rattle.pg_map_ranks.proofs.Common.{◌≡◌, ℕ, ◌<◌, length, slice_index_or, step_at, IsCount, IsBounded}
use Rattle.pg_map_ranks.proofs.table.counts_of.Given as goal

abbrev pub invariant-loop-k : goal.invariant-loop-k
invariant-loop-k l = record {
  each : length l.counts.items ≡ l.k;
  are : (j : ℕ) → j < l.k → IsCount l.steps (slice_index_or l.counts.items j 0) j;
  bounded : (j : ℕ) → j < l.k → IsBounded l.bounds (step_at l.steps j) (slice_index_or l.counts.items j 0);
}
