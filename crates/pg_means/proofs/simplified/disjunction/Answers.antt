use Rattle.std.proofs.Common.{List, subst}
use Rattle.pg_ltl.specs.declared.normal.NormalNode.{NormalNode}
use Rattle.pg_ltl.specs.NormalForms.{top, bottom, either, until, release}
use Rattle.pg_ltl.specs.Mirrors.Nodes.{normal_in}
use Rattle.pg_means.specs.Mirrors.Simplified.{AddsSame, HasOperand}
use Rattle.pg_means.proofs.Sameness.{either_same}
use Rattle.pg_means.proofs.Simplifying.{added_same, there_same, merged_recurs}
use Rattle.pg_means.proofs.simplified.disjunction.Goals as goal

pub returns-then-f-g : goal.returns-then-f-g
returns-then-f-g c =
    let nodes = c.args.nodes.now.items in
    subst (λ g. AddsSame nodes nodes c.args.f (either (normal_in nodes c.args.f) (normal_in nodes g))) c.if-f-g.true
    (there_same nodes c.args.f _ c.requires.ordered c.requires.f (either_same (normal_in nodes c.args.f)))

pub returns-in-Some-recurrent : goal.returns-in-Some-recurrent
returns-in-Some-recurrent c =
    let first = subst (λ (ns : List NormalNode). HasOperand release bottom ns c.args.f c.in-Some.first.0
    × HasOperand until top ns c.in-Some.first.0.operand c.in-Some.first.1) c.deref.ensures.value c.in-Some.ensures in
    let second = subst (λ (ns : List NormalNode). HasOperand release bottom ns c.args.g c.in-Some-recurrent._outer
    × HasOperand until top ns c.in-Some-recurrent._outer.operand c.in-Some-recurrent.inner) c.deref-in-Some.ensures.value c.in-Some-recurrent.ensures in
    added_same _ _ _ _ _ c.in_ok-merged.ensures
    (merged_recurs c.args.nodes.now.items c.args.f c.args.g c.in-Some.first.0 c.in-Some-recurrent._outer c.in-Some.first.1 c.in-Some-recurrent.inner
    first.0 first.1 second.0 second.1)
