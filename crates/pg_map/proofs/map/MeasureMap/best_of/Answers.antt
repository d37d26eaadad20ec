use Rattle.pg_map.proofs.Common.{◌≡◌, get_or, ◌∙◌, get_or_default}
use Rattle.pg_map.proofs.Bests.{taken, left}
use Rattle.pg_map.proofs.map.MeasureMap.best_of.Goals as goal
use Rattle.pg_map.proofs.map.MeasureMap.best_of.Goals.{then-is_better, else-is_better}

pub loop-w-preserved : goal.loop-w-preserved
loop-w-preserved c =
    let q : c.w.inside.0 ≡ get_or c.args.successors.now c.loop-w.w-index 0 = c.w.view_is
    ∙ (c.w-item.is ∙ get_or_default c.args.successors.now c.loop-w.w-index _ 0 c.loop-w-test.true) in
    elim c.if-is_better.branch [
      | then-is_better w ↦ record {
        within = rw (w.best-is, q) (c.requires.successors c.loop-w.w-index 0 c.loop-w-test.true);
        so_far = rw w.best-is (taken c.args.owner c.args.front _ c.args.successors.now c.loop-w.w-index c.loop-w.best c.w.inside.0 c.loop-w-test.true q w.if-is_better.ensures c.loop-w.invariant.so_far);
      }
      | else-is_better w ↦ record {
        within = rw w.best-is c.loop-w.invariant.within;
        so_far = rw w.best-is (left c.args.owner c.args.front _ c.args.successors.now c.loop-w.w-index c.loop-w.best c.w.inside.0 c.loop-w-test.true q w.if-is_better.ensures c.loop-w.invariant.so_far);
      }
    ]
