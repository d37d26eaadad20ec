use Rattle.pg_hoa.proofs.Common.{◌≡◌, List, [], ℕ, Bor, map, length, arith}
use Rattle.std.proofs.lemmas.List.{length-map}
use Rattle.std.specs.Prelude.{Contains}
use Rattle.pg_hoa.proofs.NamedOutputs.{known_more, known_map, map_at}
use Rattle.pg_hoa.proofs.outputs.first_unknown.Goals as goal

pub loop-place-preserved : goal.loop-place-preserved
loop-place-preserved c =
    known_more (λ (name : Bor (List ℕ)). Contains c.args.automaton.now.propositions name.now) c.args.names.now c.loop-place.place _
    c.loop-place-test.true c.loop-place.invariant c.if-not-has_proposition.ensures

pub returns-then-not-has_proposition : goal.returns-then-not-has_proposition
returns-then-not-has_proposition c =
    let names = c.args.names.now in
    let same : length (map (λ (name : Bor (List ℕ)). name.now) names) ≡ length names = length-map names (λ (name : Bor (List ℕ)). name.now) in
    record {
      within = omega (arith, same, c.loop-place-test.true);
      unknown = map_at (λ (name : List ℕ). Contains c.args.automaton.now.propositions name → ⊥) (λ (name : Bor (List ℕ)). name.now) names c.loop-place.place _ []
          c.loop-place-test.true c.if-not-has_proposition.ensures;
      first = known_map (Contains c.args.automaton.now.propositions) (λ (name : Bor (List ℕ)). name.now) names c.loop-place.place []
          (omega (arith, c.loop-place-test.true)) c.loop-place.invariant;
    }
