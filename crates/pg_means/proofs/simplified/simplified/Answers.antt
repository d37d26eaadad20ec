use Rattle.std.proofs.Common.{arith, ◌<◌, ◌∙◌, length}
use Rattle.std.proofs.lemmas.List.{get_or_default}
use Rattle.pg_means.proofs.Simplifying.{stepped}
use Rattle.pg_means.proofs.simplified.simplified.Goals as goal

pub loop-part-preserved : goal.loop-part-preserved
loop-part-preserved c =
    let lt : c.loop-part.part < length c.args.entry.now.nodes.items = omega arith in
    let next = stepped _ _ _ _ _ c.in_ok-place.place _ _ c.loop-part.part c.deref.ensures.value c.in_ok-push.ensures.items c.loop-part.invariant.count lt
    c.args.entry.now.ordered (c.index.ensures ∙ get_or_default c.args.entry.now.nodes.items c.loop-part.part _ _ lt)
    c.in_ok-place.ensures c.loop-part.invariant.below c.loop-part.invariant.stand in
    record { count = next.count; ordered = next.ordered; below = next.below; stand = next.stand }
