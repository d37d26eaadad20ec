use Rattle.pg_world.proofs.Common.{◌≡◌, ◌<◌, ◌∙◌, length, get_or, get_or_default, taken, left, width_from, shown_by}
use Rattle.pg_world.proofs.Lifting.{within_game, some_successor, first_best}
use Rattle.pg_world.proofs.replica.ReplicaMap.best_of.Goals as goal
use Rattle.pg_world.proofs.replica.ReplicaMap.best_of.Goals.{then-is_better, else-is_better}

pub loop-w-init : goal.loop-w-init
loop-w-init c =
    let ss = c.successors-successors.result.now in
    let some : 0 < length ss = some_successor c.args.game.now c.args.v ss c.requires.game c.requires.v c.successors-successors.ensures in
    let first : c.index-successors-0.result ≡ get_or ss 0 0 = c.index-successors-0.is ∙ get_or_default ss 0 _ 0 some in
    record {
      within = rw first (within_game c.args.game.now c.args.v
          (length c.args.self.now.greatest.now) ss c.requires.game c.requires.size c.successors-successors.ensures 0 0 some);
      so_far = first_best c.owner-owner.result (width_from c.args.self.now.bounds.now c.priority-priority.result)
          (shown_by c.args.self.now) ss c.index-successors-0.result 0 some first;
    }

pub is_better-requires-clause-a : goal.is_better-requires-clause-a
is_better-requires-clause-a c =
    let ss = c.successors-successors.result.now in
    let here : c.w-item.result ≡ get_or ss c.loop-w.w-index 0 = c.w-item.is ∙ get_or_default ss c.loop-w.w-index _ 0 c.loop-w-test.true in
    rw here (within_game c.args.game.now c.args.v (length c.args.self.now.greatest.now) ss c.requires.game c.requires.size c.successors-successors.ensures c.loop-w.w-index 0 c.loop-w-test.true)

pub loop-w-preserved : goal.loop-w-preserved
loop-w-preserved c =
    let ss = c.successors-successors.result.now in
    let front = width_from c.args.self.now.bounds.now c.priority-priority.result in
    let here : c.w-item.result ≡ get_or ss c.loop-w.w-index 0 = c.w-item.is ∙ get_or_default ss c.loop-w.w-index _ 0 c.loop-w-test.true in
    elim c.if-is_better.branch [
      | then-is_better w ↦ record {
        within = rw (w.best-is, here) (within_game c.args.game.now c.args.v (length c.args.self.now.greatest.now) ss c.requires.game c.requires.size c.successors-successors.ensures c.loop-w.w-index 0 c.loop-w-test.true);
        so_far = rw w.best-is (taken c.owner-owner.result front (shown_by c.args.self.now) ss c.loop-w.w-index c.loop-w.best c.w-item.result c.loop-w-test.true here w.if-is_better.ensures c.loop-w.invariant.so_far);
      }
      | else-is_better w ↦ record {
        within = rw w.best-is c.loop-w.invariant.within;
        so_far = rw w.best-is (left c.owner-owner.result front (shown_by c.args.self.now) ss c.loop-w.w-index c.loop-w.best c.w-item.result c.loop-w-test.true here w.if-is_better.ensures c.loop-w.invariant.so_far);
      }
    ]
