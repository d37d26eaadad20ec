use Rattle.std.proofs.Common.{◌≡◌, ◌∙◌, rules}
use Rattle.std.proofs.lemmas.List.{get_or_default}
use Rattle.pg_ltl.specs.declared.normal.NormalNode.TheVariants.{Bottom}
use Rattle.pg_ltl.specs.Mirrors.Nodes.{normal_node_in}
use Rattle.pg_means.proofs.Simplifying.{of_release}
use Rattle.pg_means.proofs.simplified.invariant.Goals as goal

pub returns-then-eq : goal.returns-then-eq
returns-then-eq c =
    let constant_is : normal_node_in c.args.nodes.now c.in-Release.constant ≡ Bottom = search rules in
    of_release c.args.nodes.now c.args.place c.in-Release.constant c.in-Release.operand c.requires.ordered c.requires.below
    (get_or_default c.args.nodes.now c.args.place _ _ c.requires.below ∙ c.in-Release.is) constant_is
