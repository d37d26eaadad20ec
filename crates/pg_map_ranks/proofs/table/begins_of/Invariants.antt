use Rattle.pg_map_ranks.proofs.Common.{◌≡◌, ℕ, ◌<◌, length, slice_index_or, IsBegin}
use Rattle.pg_map_ranks.proofs.table.begins_of.Given as goal

abbrev pub invariant-loop-k : goal.invariant-loop-k
invariant-loop-k l = record {
  each : length l.begins.items ≡ l.k;
  are : (j : ℕ) → j < l.k → IsBegin l.steps (slice_index_or l.begins.items j 0) j;
}
