use Rattle.std.proofs.Common.{◌≤◌, length, get_or, arith, subst, sym}
use Rattle.std.proofs.lemmas.List.{take_all}
use Rattle.pg_ltl.specs.declared.normal.NormalNode.{NormalNode}
use Rattle.pg_ltl.specs.Mirrors.Nodes.{normal_reach}
use Rattle.pg_ltl.proofs.Nodes.{length-extends}
use Rattle.pg_satisfies_promises.specs.Mirrors.Alternatives.{left_reach, AddsFrames}
use Rattle.pg_satisfies_promises.proofs.Rows.{framed_reach, frames_none, frames_more}
use Rattle.pg_satisfies_promises.proofs.frame.frame_each.Goals as goal

pub put-requires-clause-ordered : goal.put-requires-clause-ordered
put-requires-clause-ordered c = c.loop-operand.invariant.ordered

pub put-requires-clause-reach : goal.put-requires-clause-reach
put-requires-clause-reach c =
    let long = length-extends c.args.nodes.now.items c.loop-operand.nodes.items c.loop-operand.invariant.grown in
    let left : left_reach c.args.frame ≤ length c.loop-operand.nodes.items = omega (arith, c.requires.left, long) in
    let below = c.requires.operands c.loop-operand.operand-index 0 c.loop-operand-test.true in
    subst (λ (n : NormalNode). normal_reach n ≤ length c.loop-operand.nodes.items) (sym c.around.ensures)
    (framed_reach c.args.frame (get_or c.args.operands.now c.loop-operand.operand-index 0) (length c.loop-operand.nodes.items) left
    (omega (arith, below, long)))

pub loop-operand-init : goal.loop-operand-init
loop-operand-init c = frames_none _ _ c.args.operands.now _ c.requires.ordered c.requires.places

pub loop-operand-preserved : goal.loop-operand-preserved
loop-operand-preserved c =
    frames_more _ _ _ _ _ _ c.args.operands.now c.args.frame c.loop-operand.operand-index _ _ c.loop-operand-test.true c.loop-operand.invariant
    c.around.ensures c.in_ok-place.ensures c.in_ok-push.ensures.items

pub returns : goal.returns
returns c =
    subst (AddsFrames c.args.nodes.now.items c.loop-operand.nodes.items c.args.places.now.items c.loop-operand.places.items c.args.frame)
    (take_all c.loop-operand.operand-index c.args.operands.now (omega arith)) c.loop-operand.invariant
