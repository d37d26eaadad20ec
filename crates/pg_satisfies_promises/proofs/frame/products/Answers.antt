use Rattle.std.proofs.Common.{arith, subst}
use Rattle.std.proofs.lemmas.List.{take_all}
use Rattle.pg_ltl.proofs.Nodes.{length-extends}
use Rattle.pg_satisfies_promises.specs.Mirrors.Alternatives.{AddsProducts}
use Rattle.pg_satisfies_promises.proofs.NodeLists.{within_kept}
use Rattle.pg_satisfies_promises.proofs.Rows.{products_none, products_more}
use Rattle.pg_satisfies_promises.proofs.frame.products.Goals as goal

pub frame_each-requires-clause-ordered : goal.frame_each-requires-clause-ordered
frame_each-requires-clause-ordered c = c.loop-first.invariant.ordered

pub frame_each-requires-clause-left : goal.frame_each-requires-clause-left
frame_each-requires-clause-left c =
    let long = length-extends c.args.nodes.now.items c.loop-first.nodes.items c.loop-first.invariant.grown in
    let below = c.requires.firsts c.loop-first.first-index 0 c.loop-first-test.true in
    omega (arith, long, below)

pub frame_each-requires-clause-operands : goal.frame_each-requires-clause-operands
frame_each-requires-clause-operands c =
    within_kept c.args.nodes.now.items c.loop-first.nodes.items c.loop-first.invariant.grown c.args.seconds.now c.requires.seconds

pub frame_each-requires-clause-places : goal.frame_each-requires-clause-places
frame_each-requires-clause-places c = c.loop-first.invariant.within

pub loop-first-init : goal.loop-first-init
loop-first-init c = products_none c.args.nodes.now.items _ c.args.firsts.now c.args.seconds.now c.new-places.ensures.items c.requires.ordered

pub loop-first-preserved : goal.loop-first-preserved
loop-first-preserved c =
    products_more _ _ _ _ _ c.args.firsts.now c.args.seconds.now c.loop-first.first-index c.loop-first-test.true c.loop-first.invariant
    c.in_ok-frame_each.ensures

pub returns : goal.returns
returns c =
    subst (λ firsts. AddsProducts c.args.nodes.now.items c.loop-first.nodes.items c.loop-first.places.items firsts c.args.seconds.now)
    (take_all c.loop-first.first-index c.args.firsts.now (omega arith)) c.loop-first.invariant
