use Rattle.std.proofs.Common.{◌≡◌, ◌∙◌, ◌≤◌, Vec, Global, ℕ, List, length, map, ap, arith}
use Rattle.pg_ltl.specs.Mirrors.Views.{written}
use Rattle.pg_means_texts.specs.Names.{all_names, places_of}
use Rattle.pg_means_texts.proofs.Found.{places_within, compared_by, round_of, unfound_by}
use Rattle.pg_means_texts.proofs.comparison.compare.Goals as goal

abbrev texts : List (Vec ℕ Global) → List (List ℕ)
texts names = map (λ v. v.items) names

pub means-requires-clause-places : goal.means-requires-clause-places
means-requires-clause-places c =
    let propositions = c.in_ok-automaton.automaton.propositions in
    let own = c.in_ok-own.own.items in
    let names = c.in_ok-names.names.items in
    let all : texts names ≡ all_names propositions (texts own) =
    c.in_ok-names.ensures ∙ ap (λ (l : List (Vec ℕ Global)). all_names propositions (texts l)) c.deref.ensures.value in
    let are : c.deref-4.result.now ≡ places_of (texts names) (texts own) =
    c.deref-4.ensures.value ∙ c.in_ok-places.ensures
    ∙ ap (λ (l : List (Vec ℕ Global)). places_of (texts l) (texts c.deref-3.result.now)) c.deref-2.ensures.value
    ∙ ap (λ (l : List (Vec ℕ Global)). places_of (texts names) (texts l)) c.deref-3.ensures.value in
    let count : c.len-2.result ≡ length names = omega (arith, c.len-2.ensures) in
    places_within propositions own names c.len-2.result c.deref-4.result.now all count are

pub returns-in_err-verdict-clause-refused : goal.returns-in_err-verdict-clause-refused
returns-in_err-verdict-clause-refused c =
    let a = c.in_ok-automaton.automaton in
    let own = c.in_ok-own.own.items in
    let names = c.in_ok-names.names.items in
    let all : texts names ≡ all_names a.propositions (texts own) =
    c.in_ok-names.ensures ∙ ap (λ (l : List (Vec ℕ Global)). all_names a.propositions (texts l)) c.deref.ensures.value in
    let few : length names ≤ 16 = omega (arith, c.len.ensures, c.if-len-gt-MOST_PROPOSITIONS.false) in
    unfound_by c.from_residual-in_err-verdict.result c.args.first.now c.args.second.now c.in_err-verdict.field-0.0 a own names
    (written c.in_ok-own.formula) c.from_residual-in_err-verdict.ensures.1 c.in_ok-automaton.ensures.found c.in_ok-own.ensures.found all few

pub invariant_of-result : goal.invariant_of-result
invariant_of-result c =
    let says = c.in_ok-automaton.ensures.found.says in
    record {
      round = round_of c.in_ok-automaton.automaton says.condition c.len-2.result c.deref-4.result.now (written c.in_ok-own.formula)
          c.in_ok-verdict.verdict (c.in_ok-verdict.ensures says.condition says.shape.fits);
    }

pub returns-clause-compared : goal.returns-clause-compared
returns-clause-compared c =
    let propositions = c.in_ok-automaton.automaton.propositions in
    let own = c.in_ok-own.own.items in
    let names = c.in_ok-names.names.items in
    let all : texts names ≡ all_names propositions (texts own) =
    c.in_ok-names.ensures ∙ ap (λ (l : List (Vec ℕ Global)). all_names propositions (texts l)) c.deref.ensures.value in
    let are : c.deref-4.result.now ≡ places_of (texts names) (texts own) =
    c.deref-4.ensures.value ∙ c.in_ok-places.ensures
    ∙ ap (λ (l : List (Vec ℕ Global)). places_of (texts l) (texts c.deref-3.result.now)) c.deref-2.ensures.value
    ∙ ap (λ (l : List (Vec ℕ Global)). places_of (texts names) (texts l)) c.deref-3.ensures.value in
    let count : c.len-2.result ≡ length names = omega (arith, c.len-2.ensures) in
    let few : c.len-2.result ≤ 16 = omega (arith, c.len.ensures, c.len-2.ensures, c.if-len-gt-MOST_PROPOSITIONS.false) in
    compared_by c.args.first.now c.args.second.now c.in_ok-automaton.automaton own names (written c.in_ok-own.formula) c.len-2.result
    c.deref-4.result.now c.in_ok-verdict.verdict c.in_ok-automaton.ensures.found c.in_ok-own.ensures.found all count few are
    c.in_ok-verdict.ensures
