use Rattle.std.proofs.Common.{ℕ, ◌<◌, length}
use Rattle.std.proofs.lemmas.Result.{IfOk-weaker}
use Rattle.std.specs.declared.vec.Vec.{Vec}
use Rattle.std.specs.declared.alloc.Global.{Global}
use Rattle.pg_satisfies_promises.proofs.NodeLists.{given_itself, conjuncts_first, conjuncts_more, taken}
use Rattle.pg_satisfies_promises.proofs.conjuncts.conjuncts_of.Goals as goal

pub loop-step-init : goal.loop-step-init
loop-step-init c = conjuncts_first c.args.nodes.now c.args.whole c.in_ok-waiting.waiting.items c.new-found.result.items c.in_ok-waiting.ensures
    c.new-found.ensures.items c.requires.whole

pub returns-in_default : goal.returns-in_default
returns-in_default c = c.loop-step.invariant.is_found

pub take_apart-requires : goal.take_apart-requires
take_apart-requires c =
    let split = taken c.loop-step.waiting.items c.pop.new.self.items c.in-Some.place c.in-Some.ensures.items (λ p. p < length c.args.nodes.now)
    c.loop-step.invariant.waits.within in
    record { ordered = c.requires.ordered; place = split.1; waiting = split.0; found = c.loop-step.invariant.is_found.within }

pub loop-step-preserved : goal.loop-step-preserved
loop-step-preserved c =
    conjuncts_more c.args.nodes.now c.args.whole c.in-Some.place c.loop-step.waiting.items c.pop.new.self.items _ c.loop-step.found.items _
    c.loop-step.invariant c.in-Some.ensures.items c.in_ok-take_apart.ensures

pub returns : goal.returns
returns c =
    IfOk-weaker c.alone-2.result _ _
    (λ (list : Vec ℕ Global) e. given_itself c.args.nodes.now c.args.whole list.items e c.requires.whole) c.alone-2.ensures
