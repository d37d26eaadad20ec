use Rattle.std.proofs.Common.{◌≡◌, ◌%◌, ◌<◌, ℕ, List, length, arith}
use Rattle.pg_ltl.specs.NormalForms.{NormalForm}
use Rattle.pg_means_look.specs.Certificates.{IsFine, Goes}
use Rattle.pg_means_look.specs.Mirrors.Choices.{parts, choice_of}
use Rattle.pg_means_look.specs.Mirrors.Views.{automaton_of, certificate_of}
use Rattle.pg_means_look.proofs.Steps.{on_true_weaker}
use Rattle.pg_means_look.proofs.Going.{goes_to}
use Rattle.pg_means_look.proofs.look.goes.Goals as goal

pub returns : goal.returns
returns g c =
    let below : c.in-Some.to < length c.args.certificate.now.nodes.items =
    omega (arith, c.len.ensures, c.if-to-len.false, c.args.certificate.now.nodes.ok.0) in
    on_true_weaker c.is_fine.result ((forms : List NormalForm) (p : ℕ) → p % 2 ≡ c.args.parity
    → IsFine (certificate_of forms c.args.certificate.now) p c.edge-edge.result.priority (parts forms c.deref-3.result.now) c.args.v c.in-Some.to)
    ((forms : List NormalForm) → Goes (automaton_of c.args.automaton.now) (certificate_of forms c.args.certificate.now) c.args.parity c.args.v
    c.args.letter (choice_of forms c.args.choice.now))
    (λ fine forms.
    goes_to c.args.automaton.now c.args.certificate.now forms c.args.parity c.args.v c.args.letter c.in-Some.to c.args.choice.now c.node.result
    c.node-next.result c.edge-edge.result c.set.result.now c.deref-2.result.now c.deref-3.result.now c.node.ensures c.node-next.ensures
    c.edge-edge.ensures below c.if-next-edge.false c.set.ensures c.deref-2.ensures.value c.if-not-is_within.ensures c.deref-3.ensures.value fine)
    c.is_fine.ensures
