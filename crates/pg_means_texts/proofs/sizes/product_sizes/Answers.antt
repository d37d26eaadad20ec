use Rattle.std.proofs.Common.{◌≡◌, ◌∙◌, ◌≤◌, Vec, Global, ℕ, List, length, map, ap, arith}
use Rattle.pg_means_texts.specs.Names.{all_names, places_of}
use Rattle.pg_means_texts.proofs.Found.{places_within}
use Rattle.pg_means_texts.proofs.sizes.product_sizes.Goals as goal

abbrev texts : List (Vec ℕ Global) → List (List ℕ)
texts names = map (λ v. v.items) names

pub sizes-requires-clause-places : goal.sizes-requires-clause-places
sizes-requires-clause-places c =
    let propositions = c.in_ok-automaton.automaton.propositions in
    let own = c.in_ok-own.own.items in
    let names = c.in_ok-names.names.items in
    let all : texts names ≡ all_names propositions (texts own) =
    c.in_ok-names.ensures ∙ ap (λ (l : List (Vec ℕ Global)). all_names propositions (texts l)) c.deref.ensures.value in
    let are : c.deref-4.result.now ≡ places_of (texts names) (texts own) =
    c.deref-4.ensures.value ∙ c.in_ok-places.ensures
    ∙ ap (λ (l : List (Vec ℕ Global)). places_of (texts l) (texts c.deref-3.result.now)) c.deref-2.ensures.value
    ∙ ap (λ (l : List (Vec ℕ Global)). places_of (texts names) (texts l)) c.deref-3.ensures.value in
    let count : c.len-2.result ≡ length names = omega (arith, c.len-2.ensures) in
    places_within propositions own names c.len-2.result c.deref-4.result.now all count are
