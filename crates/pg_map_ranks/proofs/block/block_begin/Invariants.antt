use Rattle.pg_map_ranks.proofs.Common.{ℕ, ◌<◌, ◌≤◌, step_at}
use Rattle.pg_map_ranks.proofs.block.block_begin.Given as goal

abbrev pub invariant-loop-first : goal.invariant-loop-first
invariant-loop-first l = record {
  before : l.first ≤ l.rank;
  less : (j : ℕ) → l.first ≤ j → j < l.rank → step_at l.steps j < l.priority;
}

abbrev pub decreases-loop-first : goal.decreases-loop-first
decreases-loop-first l = l.first
