use Rattle.std.proofs.Common.{◌≡◌, ◌<◌, List, length, rules, subst}
use Rattle.pg_ltl.specs.declared.normal.NormalNode.{NormalNode}
use Rattle.pg_ltl.specs.Mirrors.Nodes.{normal_node_in}
use Rattle.pg_ltl.proofs.Nodes.{pushed}
use Rattle.pg_means.proofs.Simplifying.{there}
use Rattle.pg_means.proofs.simplified.put.Goals as goal

pub returns-in-Some : goal.returns-in-Some
returns-in-Some c =
    let found = subst (λ (ns : List NormalNode). (c.in-Some.place < length ns) × (normal_node_in ns c.in-Some.place ≡ c.args.node))
    c.deref.ensures.value c.in-Some.ensures in
    there c.args.nodes.now.items c.in-Some.place c.args.node c.requires.ordered found.0 found.1

pub returns : goal.returns
returns c = pushed _ _ _ _ c.in_ok-push.ensures.items (search rules) c.requires.ordered c.requires.reach
