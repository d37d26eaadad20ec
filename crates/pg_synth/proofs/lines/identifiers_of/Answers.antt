use Rattle.pg_synth.proofs.Common.{◌*◌, ◌++◌, ◌∷◌, [], List, ℕ, None, map, append_assoc, arith, ap, ◌∙◌, range_with_len, place_identifier}
use Rattle.pg_synth.proofs.Common.{input_letters, letters, target, added_by, Arrival, Answer}
use Rattle.pg_synth.proofs.Lists.{flat_more}
use Rattle.pg_synth.proofs.Numbers.{small}
use Rattle.pg_synth.proofs.lines.identifiers_of.Goals as goal

pub overflow_mul-start : goal.overflow_mul-start
overflow_mul-start c =
    let a = c.args.automaton.now in
    let s = small a a.start c.requires.automaton c.requires.automaton.start_below in
    let g = ap (λ q. q * c.args.layout.now.width) c.start.ensures in
    let h = ap (λ w. a.start * w) c.requires.width in
    omega (arith, s, g, h)

pub overflow_add-start : goal.overflow_add-start
overflow_add-start c =
    let a = c.args.automaton.now in
    let s = small a a.start c.requires.automaton c.requires.automaton.start_below in
    let g = ap (λ q. q * c.args.layout.now.width) c.start.ensures in
    let h = ap (λ w. a.start * w) c.requires.width in
    omega (arith, s, g, h)

pub loop-state-preserved : goal.loop-state-preserved
loop-state-preserved c =
    let a = c.args.automaton.now in
    let start : ℕ = place_identifier a (Arrival a.start None) in
    flat_more (added_by a) (0 ∷ start ∷ []) c.loop-state.list.items c.push_answers.new.list.items c.loop-state.state c.loop-state.invariant
    (c.in_ok-push_answers.ensures ∙ ap (λ (xs : List ℕ). xs ++ map (λ i. place_identifier a (Answer c.loop-state.state i))
    (range_with_len 0 (input_letters a))) c.in_ok-push_targets.ensures
    ∙ append_assoc c.loop-state.list.items (map (target a c.loop-state.state) (range_with_len 0 (letters a)))
    (map (λ i. place_identifier a (Answer c.loop-state.state i)) (range_with_len 0 (input_letters a))))
