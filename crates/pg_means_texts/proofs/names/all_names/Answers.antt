use Rattle.std.proofs.Common.{◌∙◌, ℕ, List, map, ap, sym}
use Rattle.pg_ltl.specs.Texts.{with_name}
use Rattle.pg_means_texts.proofs.Named.{names_more}
use Rattle.pg_means_texts.proofs.names.all_names.Goals as goal

pub loop-name-preserved : goal.loop-name-preserved
loop-name-preserved c =
    let names : List (List ℕ) = map (λ v. v.items) c.loop-name.names.items in
    c.in_ok-names-2.ensures ∙ ap (λ (w : List ℕ). with_name w names) c.deref.ensures.value
    ∙ ap (λ (l : List (List ℕ)). with_name c.name-item.result.items l) c.loop-name.invariant
    ∙ sym (names_more c.args.automaton.now.propositions c.args.own.now c.loop-name.name-index c.name-item.result c.loop-name-test.true c.name-item.is)
