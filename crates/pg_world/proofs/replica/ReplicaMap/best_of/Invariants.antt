use Rattle.pg_world.proofs.Common.{◌<◌, length, width_from, BestSoFar, shown_by}
use Rattle.pg_world.proofs.replica.ReplicaMap.best_of.Given as goal

abbrev pub invariant-loop-w : goal.invariant-loop-w
invariant-loop-w l = record {
  within : l.best < length l.self.greatest.now;
  so_far : BestSoFar l.owner (width_from l.self.bounds.now l.priority) (shown_by l.self) l.successors l.w-index l.best;
}
