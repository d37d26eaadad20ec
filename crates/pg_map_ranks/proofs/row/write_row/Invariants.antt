use Rattle.std.proofs.Common.{◌≡◌, ℕ, ◌<◌, ◌≤◌, length}
use Rattle.pg_map_ranks.proofs.Writing.{IsWritten}
use Rattle.pg_map_ranks.proofs.row.write_row.Given as goal

abbrev pub invariant-loop-k : goal.invariant-loop-k
invariant-loop-k l = record {
  within : l.k ≤ l.rank;
  size : length l.list ≡ length l.bounds;
  each : (i : ℕ) → i < length l.bounds → IsWritten l.bounds l.steps l.list l.rank l.k i;
}

abbrev pub decreases-loop-k : goal.decreases-loop-k
decreases-loop-k l = l.k
