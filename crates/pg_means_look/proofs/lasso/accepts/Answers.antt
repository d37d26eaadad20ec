use Rattle.std.proofs.Common.{◌≡◌, ◌+◌, ◌<◌, ◌%◌, ℕ, List, length, arith, sym, subst, eq-eqb, ◌∙◌}
use Rattle.std.proofs.lemmas.Bool.{eqb-true}
use Rattle.std.proofs.lemmas.List.{get_or_read}
use Rattle.pg_means_look.specs.Mirrors.Views.{automaton_of}
use Rattle.pg_means_look.specs.Mirrors.Places.{IsGreatestOn}
use Rattle.pg_means_look.proofs.Lassos.{accepts_even}
use Rattle.pg_means_look.proofs.lasso.accepts.Goals as goal

pub returns : goal.returns
returns c =
    let states = c.in_ok-states.states.items in
    let long : length states ≡ length c.args.letters.now + 1 = c.in_ok-states.ensures.long in
    let back : c.args.back < length c.args.letters.now = c.requires in
    let last = get_or_read states (length c.args.letters.now) c.index.result.now (omega arith) c.index.ensures 0 in
    let first = get_or_read states c.args.back c.index-2.result.now (omega arith) c.index-2.ensures 0 in
    let greatest = subst (λ (xs : List ℕ). IsGreatestOn (automaton_of c.args.automaton.now) c.args.letters.now xs c.args.back c.greatest_on.result)
    c.deref.ensures.value c.greatest_on.ensures in
    let even = accepts_even (automaton_of c.args.automaton.now) c.args.letters.now states c.args.back back c.in_ok-states.ensures
    (sym last ∙ c.if-index.false ∙ first) c.greatest_on.result greatest in
    (λ h. even.0 (eqb-true (c.greatest_on.result % 2) 0 h), λ accepted. eq-eqb (c.greatest_on.result % 2) 0 (even.1 accepted))
