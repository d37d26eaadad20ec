use Rattle.pg_map_ranks.proofs.Common.{◌≡◌, ℕ, ◌<◌, ◌≤◌, length, slice_index_or, IsEnd}
use Rattle.pg_map_ranks.proofs.table.ends_of.Given as goal

abbrev pub invariant-loop-k : goal.invariant-loop-k
invariant-loop-k l = record {
  within : l.k ≤ length l.steps;
  each : length l.ends.items ≡ length l.steps;
  are : (j : ℕ) → l.k ≤ j → j < length l.steps → IsEnd l.steps (slice_index_or l.ends.items j 0) j;
}

abbrev pub decreases-loop-k : goal.decreases-loop-k
decreases-loop-k l = l.k
