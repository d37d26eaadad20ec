use Rattle.std.proofs.Common.{◌≤◌, length}
use Rattle.pg_measure.proofs.Counted.{CountedFrom}
use Rattle.pg_measure.proofs.bounds.Bounds.of_counts.Given as goal

-- the pairs are those of the odd priorities from `priority` on
abbrev pub invariant-loop-priority : goal.invariant-loop-priority
invariant-loop-priority l = record {
  within : l.priority ≤ length l.counts;
  counted : CountedFrom l.counts l.priority l.pairs.items;
}

abbrev pub decreases-loop-priority : goal.decreases-loop-priority
decreases-loop-priority l = l.priority
