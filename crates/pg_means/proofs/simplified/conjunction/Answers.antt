use Rattle.std.proofs.Common.{List, subst}
use Rattle.pg_ltl.specs.declared.normal.NormalNode.{NormalNode}
use Rattle.pg_ltl.specs.NormalForms.{top, bottom, until, release}
use Rattle.pg_means.specs.Mirrors.Simplified.{HasOperand}
use Rattle.pg_means.proofs.Simplifying.{added_same, merged_lasts}
use Rattle.pg_means.proofs.simplified.conjunction.Goals as goal

pub returns-in-Some-persistent : goal.returns-in-Some-persistent
returns-in-Some-persistent c =
    let first = subst (λ (ns : List NormalNode). HasOperand until top ns c.args.f c.in-Some.first.0
    × HasOperand release bottom ns c.in-Some.first.0.operand c.in-Some.first.1) c.deref.ensures.value c.in-Some.ensures in
    let second = subst (λ (ns : List NormalNode). HasOperand until top ns c.args.g c.in-Some-persistent._outer
    × HasOperand release bottom ns c.in-Some-persistent._outer.operand c.in-Some-persistent.inner) c.deref-in-Some.ensures.value c.in-Some-persistent.ensures in
    added_same _ _ _ _ _ c.in_ok-merged.ensures
    (merged_lasts c.args.nodes.now.items c.args.f c.args.g c.in-Some.first.0 c.in-Some-persistent._outer c.in-Some.first.1 c.in-Some-persistent.inner
    first.0 first.1 second.0 second.1)
