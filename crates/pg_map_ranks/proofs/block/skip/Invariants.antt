use Rattle.pg_map_ranks.proofs.Common.{ℕ, ◌-◌, ◌<◌, ◌≤◌, length, step_at}
use Rattle.pg_map_ranks.proofs.block.skip.Given as goal

abbrev pub invariant-loop-end : goal.invariant-loop-end
invariant-loop-end l = record {
  after : l.from ≤ l.end;
  within : l.end ≤ length l.steps;
  no_more : (k : ℕ) → l.from ≤ k → k < l.end → step_at l.steps k ≤ l.most;
}

abbrev pub decreases-loop-end : goal.decreases-loop-end
decreases-loop-end l = length l.steps - l.end
