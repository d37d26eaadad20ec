use Rattle.pg_synth.proofs.Common.{◌≡◌, inl, inr, arith, sym, ap, ◌∙◌, cases_lt, joined, input_letters, output_letters, target}
use Rattle.pg_synth.proofs.Numbers.{count, few_letters_of, few_outputs_of, letter_at}
use Rattle.pg_synth.proofs.Places.{letter_in}
use Rattle.pg_synth.proofs.controller.least_output.Goals as goal

pub index-part-requires : goal.index-part-requires
index-part-requires c =
    let a = c.args.automaton.now in
    let n = count (λ i. joined a.controllable i 0) c.args.layout.now.inputs.items (input_letters a) c.requires.laid.inputs in
    omega (arith, c.requires.input, n, c.args.layout.now.inputs.ok.0)

pub loop-output-init : goal.loop-output-init
loop-output-init c = λ o l. absurd (omega arith)

pub overflow_add-part : goal.overflow_add-part
overflow_add-part c =
    let a = c.args.automaton.now in
    let l = letter_at a c.args.layout.now c.deref-other-items.result.now c.args.input c.loop-output.output c.index-part.result.now
    c.requires.laid c.requires.input c.deref-other-items.ensures.value c.loop-output-test.true c.index-part.ensures in
    omega (arith, l, letter_in a c.args.input c.loop-output.output c.requires.laid.automaton, few_letters_of a c.requires.laid.automaton)

pub target-requires-clause-letter : goal.target-requires-clause-letter
target-requires-clause-letter c =
    let a = c.args.automaton.now in
    let l = letter_at a c.args.layout.now c.deref-other-items.result.now c.args.input c.loop-output.output c.index-part.result.now
    c.requires.laid c.requires.input c.deref-other-items.ensures.value c.loop-output-test.true c.index-part.ensures in
    omega (arith, l, letter_in a c.args.input c.loop-output.output c.requires.laid.automaton)

pub overflow_cast-result : goal.overflow_cast-result
overflow_cast-result c =
    let a = c.args.automaton.now in
    let n = count (λ o. joined a.controllable 0 o) c.deref-other-items.result.now (output_letters a)
    (c.deref-other-items.ensures.value ∙ c.requires.laid.outputs) in
    omega (arith, n, c.loop-output-test.true, few_outputs_of a c.requires.laid.automaton)

pub returns-then-target-identifier : goal.returns-then-target-identifier
returns-then-target-identifier c =
    let a = c.args.automaton.now in
    let n = count (λ o. joined a.controllable 0 o) c.deref-other-items.result.now (output_letters a)
    (c.deref-other-items.ensures.value ∙ c.requires.laid.outputs) in
    let l = letter_at a c.args.layout.now c.deref-other-items.result.now c.args.input c.loop-output.output c.index-part.result.now
    c.requires.laid c.requires.input c.deref-other-items.ensures.value c.loop-output-test.true c.index-part.ensures in
    record {
      output_in = (let h = c.loop-output-test.true in omega (arith, n));
      leads = ap (target a c.args.state) (sym l) ∙ sym c.target.ensures ∙ c.if-target-identifier.true;
      least = λ o e. elim (cases_lt o c.loop-output.output) [
        | inl less ↦ absurd (c.loop-output.invariant o less e)
        | inr le ↦ le
      ];
    }

pub loop-output-preserved : goal.loop-output-preserved
loop-output-preserved c = λ o lt e.
    let a = c.args.automaton.now in
    let l = letter_at a c.args.layout.now c.deref-other-items.result.now c.args.input c.loop-output.output c.index-part.result.now
    c.requires.laid c.requires.input c.deref-other-items.ensures.value c.loop-output-test.true c.index-part.ensures in
    elim (cases_lt o c.loop-output.output) [
      | inl less ↦ c.loop-output.invariant o less e
      | inr le ↦
          let same : o ≡ c.loop-output.output = omega arith in
          c.if-target-identifier.false
          (c.target.ensures ∙ ap (target a c.args.state) l ∙ ap (λ x. target a c.args.state (joined a.controllable c.args.input x)) (sym same) ∙ e)
    ]

pub returns : goal.returns
returns c = λ o lt.
    let a = c.args.automaton.now in
    let n = count (λ o. joined a.controllable 0 o) c.deref-other-items.result.now (output_letters a)
    (c.deref-other-items.ensures.value ∙ c.requires.laid.outputs) in
    c.loop-output.invariant o (let h = c.loop-output-test.false in omega (arith, n))
