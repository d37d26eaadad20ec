use Rattle.std.proofs.Common.{◌≡◌, ◌∙◌, rules}
use Rattle.std.proofs.lemmas.List.{get_or_default}
use Rattle.pg_ltl.specs.declared.normal.NormalNode.TheVariants.{Top}
use Rattle.pg_ltl.specs.Mirrors.Nodes.{normal_node_in}
use Rattle.pg_means.proofs.Simplifying.{of_until}
use Rattle.pg_means.proofs.simplified.eventual.Goals as goal

pub returns-then-eq : goal.returns-then-eq
returns-then-eq c =
    let constant_is : normal_node_in c.args.nodes.now c.in-Until.constant ≡ Top = search rules in
    of_until c.args.nodes.now c.args.place c.in-Until.constant c.in-Until.operand c.requires.ordered c.requires.below
    (get_or_default c.args.nodes.now c.args.place _ _ c.requires.below ∙ c.in-Until.is) constant_is
