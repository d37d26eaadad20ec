use Rattle.std.proofs.Common.{◌∙◌, ℕ, List, [], ◌∷◌, ◌++◌, map, take, ap, sym}
use Rattle.pg_ltl.specs.Texts.{number_of}
use Rattle.pg_means_texts.specs.Names.{places_of}
use Rattle.pg_means_texts.proofs.Named.{places_more}
use Rattle.pg_means_texts.proofs.names.places_of.Goals as goal

pub loop-name-preserved : goal.loop-name-preserved
loop-name-preserved c =
    let names : List (List ℕ) = map (λ v. v.items) c.args.names.now in
    let before : List ℕ = places_of names (take c.loop-name.name-index (map (λ v. v.items) c.args.own.now)) in
    c.in_ok-push.ensures.items ∙ ap (λ (l : List ℕ). l ++ (c.number_of.result ∷ [])) c.loop-name.invariant
    ∙ ap (λ (n : ℕ). before ++ (n ∷ [])) (c.number_of.ensures.value ∙ ap (λ (w : List ℕ). number_of w names) c.deref.ensures.value)
    ∙ sym (places_more names c.args.own.now c.loop-name.name-index c.name-item.result c.loop-name-test.true c.name-item.is)
