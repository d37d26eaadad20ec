use Rattle.pg_arena.proofs.Common.{◌≡◌, slice_index, ◌∙◌, arith, get_or_default}
use Rattle.pg_arena.proofs.Linking.{read_left, left_next, mapped_next}
use Rattle.pg_arena.proofs.link.unlink.Goals as goal

pub bounds-identifiers-target-inside : goal.bounds-identifiers-target-inside
bounds-identifiers-target-inside c =
    let k = c.loop-target.target-index in
    let here : c.target.inside.0 ≡ slice_index c.args.targets.now k = c.target.view_is
    ∙ get_or_default c.loop-target.targets k c.target-item.result 0 (omega arith)
    ∙ read_left c.args.targets.now c.loop-target.targets k c.loop-target.invariant.left in
    rw here (c.requires k 0 c.loop-target-test.true)

pub loop-target-preserved : goal.loop-target-preserved
loop-target-preserved c =
    let k = c.loop-target.target-index in
    let here : c.target.inside.0 ≡ slice_index c.args.targets.now k = c.target.view_is
    ∙ get_or_default c.loop-target.targets k c.target-item.result 0 (omega arith)
    ∙ read_left c.args.targets.now c.loop-target.targets k c.loop-target.invariant.left in
    record {
      done = rw here (mapped_next (slice_index c.args.identifiers.now) c.args.targets.now c.loop-target.targets k (omega arith) (omega arith)
          c.loop-target.invariant.done);
      left = left_next c.args.targets.now c.loop-target.targets k (slice_index c.args.identifiers.now c.target.inside.0) c.loop-target.invariant.left;
    }
