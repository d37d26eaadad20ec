use Rattle.std.proofs.Common.{◌<◌, length}
use Rattle.pg_map.proofs.Bests.{BestSoFar}
use Rattle.pg_map.proofs.map.MeasureMap.best_of.Given as goal

abbrev pub invariant-loop-w : goal.invariant-loop-w
invariant-loop-w l = record {
  within : l.best < length l.self.measures;
  so_far : BestSoFar l.owner l.front l.self.measures l.successors l.w-index l.best;
}
