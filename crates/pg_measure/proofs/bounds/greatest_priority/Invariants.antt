use Rattle.pg_measure.proofs.Common.{ℕ, ◌<◌, ◌≤◌, priority}
use Rattle.pg_measure.proofs.bounds.greatest_priority.Given as goal

abbrev pub invariant-loop-number : goal.invariant-loop-number
invariant-loop-number l = record {
  above_all : (v : ℕ) → v < l.number → priority l.game v ≤ l.greatest;
  within : l.greatest ≤ 65536;
}
