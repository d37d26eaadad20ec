use Rattle.pg_measure.proofs.Common.{◌≡◌, ℕ, ◌<◌, length, take, get_or, priority, vertices_of}
use Rattle.pg_measure.proofs.bounds.priority_counts.Given as goal

-- the vertices so far are counted
abbrev pub invariant-loop-number : goal.invariant-loop-number
invariant-loop-number l = record {
  whole : (v : ℕ) → v < length l.game → priority l.game v < length l.counts.items;
  each : (p : ℕ) → p < length l.counts.items → get_or l.counts.items p 0 ≡ vertices_of (take l.number l.game) p;
}
