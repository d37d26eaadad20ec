use Rattle.std.proofs.Common.{◌<◌, List, [], ◌∷◌, length, arith}
use Rattle.std.specs.Prelude.{All, Contains}
use Rattle.pg_ltl.specs.NormalForms.{NormalForm}
use Rattle.pg_means_look.specs.Mirrors.Choices.{part}
use Rattle.pg_means_look.specs.Mirrors.Views.{automaton_of, certificate_of, StartsAt}
use Rattle.pg_means_look.proofs.Steps.{on_true_weaker}
use Rattle.pg_means_look.proofs.Going.{starts_at}
use Rattle.pg_means_look.proofs.look.starts.Goals as goal

pub returns : goal.returns
returns c =
    let some : 0 < length c.args.certificate.now.nodes.items =
    omega (arith, c.len.ensures, c.if-len-eq0.false, c.args.certificate.now.nodes.ok.0) in
    on_true_weaker c.is_within.result (All (Contains (c.args.root ∷ [])) c.set.result.now)
    ((forms : List NormalForm) → StartsAt (automaton_of c.args.automaton.now) (certificate_of forms c.args.certificate.now) (part forms c.args.root))
    (λ within forms. starts_at c.args.automaton.now c.args.certificate.now forms c.args.root c.node-first.result c.set.result.now
    c.node-first.ensures some c.if-first-automaton.false c.set.ensures within)
    c.is_within.ensures
