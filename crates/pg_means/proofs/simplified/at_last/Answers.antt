use Rattle.std.proofs.Common.{◌≡◌, List, refl, rules, subst}
use Rattle.pg_ltl.specs.declared.normal.NormalNode.{NormalNode}
use Rattle.pg_ltl.specs.declared.normal.NormalNode.TheVariants.{Top}
use Rattle.pg_ltl.specs.NormalForms.{top, until}
use Rattle.pg_ltl.specs.Mirrors.Nodes.{normal_in, normal_node_in}
use Rattle.pg_means.specs.Mirrors.Simplified.{SayTheSame}
use Rattle.pg_means.proofs.Simplifying.{there_same, constant_first}
use Rattle.pg_means.proofs.simplified.at_last.Goals as goal

pub returns-then-holds_if_ever : goal.returns-then-holds_if_ever
returns-then-holds_if_ever c =
    let nodes = c.args.nodes.now.items in
    let constant_is : normal_node_in nodes c.args.f ≡ Top = search rules in
    let same = subst (λ (ns : List NormalNode). SayTheSame (normal_in ns c.args.g) (until top (normal_in ns c.args.g)))
    c.deref.ensures.value (c.holds_if_ever.ensures c.if-holds_if_ever.true) in
    there_same nodes c.args.g _ c.requires.ordered c.requires.g
    (constant_first until nodes top Top c.args.f c.args.g c.requires.ordered c.requires.f constant_is refl same)
