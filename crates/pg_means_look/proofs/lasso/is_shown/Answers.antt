use Rattle.std.proofs.Common.{◌↔◌, subst}
use Rattle.std.specs.Prelude.{IsTrue}
use Rattle.std.specs.Option.{IfSome}
use Rattle.std.proofs.lemmas.Result.{IfOk-weaker}
use Rattle.pg_ltl.specs.Mirrors.Nodes.{normal_in}
use Rattle.pg_means_look.specs.Automata.{IsAccepted}
use Rattle.pg_means_look.specs.Lassos.{lasso}
use Rattle.pg_means_look.specs.Mirrors.Views.{automaton_of}
use Rattle.pg_means_look.proofs.Sound.{shown_by}
use Rattle.pg_means_look.proofs.lasso.is_shown.Goals as goal

pub returns : goal.returns
returns c =
    let accepts = subst (λ o. IfSome o (λ yes. IsTrue yes ↔ IsAccepted (automaton_of c.args.automaton.now) (lasso c.args.letters.now c.args.back)))
    c.in-Some.is c.in_ok-yes.ensures in
    IfOk-weaker c.holds_on.result _ _ (λ yes h.
    shown_by c.args.automaton.now (normal_in c.args.nodes.now c.args.root) c.args.parity c.args.letters.now c.args.back c.in-Some.yes yes
    c.deref.result.now c.if-back-letters.false c.if-not-are_below.ensures accepts c.if-not-is_of.ensures.even c.if-not-is_of.ensures.odd
    c.deref.ensures.value h)
    c.holds_on.ensures
