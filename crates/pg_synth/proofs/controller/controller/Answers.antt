use Rattle.pg_synth.proofs.Common.{◌≡◌, ◌*◌, ◌-◌, [], ◌∷◌, length, arith, sym, subst, ap, ◌∙◌, input_letters, Machine, IsMachineOf}
use Rattle.pg_synth.proofs.Common.{IsInOrder, state_of}
use Rattle.pg_synth.proofs.Drafting.{first_draft, machine_is, machine_of}
use Rattle.pg_synth.proofs.Letters.{both_parts}
use Rattle.pg_synth.proofs.Numbering.{few_numbers}
use Rattle.pg_synth.proofs.controller.controller.Goals as goal

pub loop-number-init : goal.loop-number-init
loop-number-init c = record {
  draft = first_draft c.args.automaton.now c.args.synth.now.game c.args.synth.now.initial c.args.solution.now c.in_ok-draft.draft.states.keys
      c.in_ok-draft.draft.replies.items c.requires.automaton c.requires.won
      (c.in_ok-draft.ensures.states ∙ ap (λ q. q ∷ []) c.start.ensures) c.in_ok-draft.ensures.replies;
  within = omega arith;
  whole = (let none = ap length c.in_ok-draft.ensures.replies in omega arith);
}

pub loop-number-smaller : goal.loop-number-smaller
loop-number-smaller c =
    let few = few_numbers c.loop-number.draft.states.keys c.args.automaton.now.states c.len.ensures.unique c.loop-number.invariant.draft.below in
    omega (arith, few, c.len.ensures.len, c.loop-number-test.true)

pub overflow_sub-inputs : goal.overflow_sub-inputs
overflow_sub-inputs c =
    omega (arith, both_parts c.args.automaton.now.controllable, c.requires.automaton.marks, c.count_controlled-outputs.ensures.value, c.propositions.ensures)

pub overflow_cast-states : goal.overflow_cast-states
overflow_cast-states c =
    let few = few_numbers c.loop-number.draft.states.keys c.args.automaton.now.states c.len.ensures.unique c.loop-number.invariant.draft.below in
    omega (arith, few, c.len-states.ensures.len, c.requires.automaton.few_states)

pub from_parts-requires : goal.from_parts-requires
from_parts-requires c =
    let a = c.args.automaton.now in
    let i = c.loop-number.invariant in
    machine_is a c.args.synth.now.game c.args.solution.now c.loop-number.draft.states.keys c.loop-number.draft.replies.items c.len-states.result
    (c.propositions.result - c.count_controlled-outputs.result) c.count_controlled-outputs.result c.requires.automaton i.draft c.len.ensures.unique
    (let all : c.loop-number.number ≡ length c.loop-number.draft.states.keys = omega (arith, i.within, c.len.ensures.len, c.loop-number-test.false) in
    i.whole ∙ ap (λ n. n * input_letters a) all)
    c.len-states.ensures.len
    (omega (arith, both_parts a.controllable, c.requires.automaton.marks, c.count_controlled-outputs.ensures.value, c.propositions.ensures))
    c.count_controlled-outputs.ensures.value

pub returns : goal.returns
returns c =
    let a = c.args.automaton.now in
    let i = c.loop-number.invariant in
    let made = machine_of a c.args.synth.now.game c.args.solution.now c.loop-number.draft.states.keys c.loop-number.draft.replies.items c.len-states.result
    (c.propositions.result - c.count_controlled-outputs.result) c.count_controlled-outputs.result c.requires.automaton i.draft c.len.ensures.unique
    (let all : c.loop-number.number ≡ length c.loop-number.draft.states.keys = omega (arith, i.within, c.len.ensures.len, c.loop-number-test.false) in
    i.whole ∙ ap (λ n. n * input_letters a) all)
    c.len-states.ensures.len
    (omega (arith, both_parts a.controllable, c.requires.automaton.marks, c.count_controlled-outputs.ensures.value, c.propositions.ensures))
    c.count_controlled-outputs.ensures.value in
    let numbering = state_of c.loop-number.draft.states.keys in
    let P : Machine → Type 0 = λ m. IsMachineOf a c.args.synth.now.game c.args.solution.now numbering m × IsInOrder numbering m in
    let there = subst P (sym c.from_parts.ensures) made in
    (state_of c.loop-number.draft.states.keys, there.0, there.1)
