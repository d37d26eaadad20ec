use Rattle.pg_arena.proofs.Common.{◌≡◌, slice_index, ◌∙◌, arith, get_or_default}
use Rattle.pg_arena.proofs.Linking.{left_next, linked_next}
use Rattle.pg_arena.proofs.link.link.Goals as goal

pub loop-k-preserved : goal.loop-k-preserved
loop-k-preserved c =
    let k = c.loop-k.k in
    let same : slice_index c.args.identifiers.now c.in-Some.place ≡ slice_index c.loop-k.targets k = c.in-Some.ensures.found
    ∙ c.target.view_is ∙ c.index-targets-k.is ∙ get_or_default c.loop-k.targets k c.index-targets-k.result 0 (omega arith) in
    record {
      done = linked_next c.args.identifiers.now c.args.targets.now c.loop-k.targets k c.in-Some.place (omega arith) (omega arith)
          c.in-Some.ensures.within same c.loop-k.invariant.left c.loop-k.invariant.done;
      left = left_next c.args.targets.now c.loop-k.targets k c.in-Some.place c.loop-k.invariant.left;
    }
