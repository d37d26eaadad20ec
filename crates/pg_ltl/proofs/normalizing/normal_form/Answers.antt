use Rattle.std.proofs.Common.{arith, ◌<◌, ◌∙◌, length}
use Rattle.std.proofs.lemmas.List.{get_or_default}
use Rattle.pg_ltl.proofs.Pairs.{stepped}
use Rattle.pg_ltl.proofs.normalizing.normal_form.Goals as goal

pub loop-place-preserved : goal.loop-place-preserved
loop-place-preserved c =
    let lt : c.loop-place.place < length c.args.formula.now.nodes.items = omega arith in
    let next = stepped _ _ _ _ _ c.in_ok-pair.pair _ _ c.loop-place.place c.deref.ensures.value c.in_ok-push.ensures.items c.loop-place.invariant.count lt
    c.args.formula.now.ordered (c.index.ensures ∙ get_or_default c.args.formula.now.nodes.items c.loop-place.place _ _ lt)
    c.in_ok-pair.ensures c.loop-place.invariant.stand in
    record { count = next.count; ordered = next.ordered; stand = next.stand }
