use Rattle.pg_synth.proofs.Common.{◌≡◌, ℕ, [], map, arith, sym, ap, subst, ◌∙◌, range_with_len, joined, input_letters, output_letters}
use Rattle.pg_synth.proofs.Common.{IsPlaceOf, target, leads, Place, Answer}
use Rattle.pg_synth.proofs.Lists.{pushed}
use Rattle.pg_synth.proofs.Numbers.{count, few_letters_of, letter_at}
use Rattle.pg_synth.proofs.Places.{letter_in}
use Rattle.pg_synth.proofs.lines.put_leads.Goals as goal

pub index-part-requires : goal.index-part-requires
index-part-requires c =
    let a = c.args.automaton.now in
    let n = count (λ i. joined a.controllable i 0) c.args.layout.now.inputs.items (input_letters a) c.requires.laid.inputs in
    let h : IsPlaceOf a (Answer c.in-Answer.state c.in-Answer.input) = subst (IsPlaceOf a) c.in-Answer.is c.requires.place in
    omega (arith, h.1, n, c.args.layout.now.inputs.ok.0)

pub overflow_add-part : goal.overflow_add-part
overflow_add-part c =
    let a = c.args.automaton.now in
    let h : IsPlaceOf a (Answer c.in-Answer.state c.in-Answer.input) = subst (IsPlaceOf a) c.in-Answer.is c.requires.place in
    let l = letter_at a c.args.layout.now c.deref-other-items.result.now c.in-Answer.input c.loop-other.other-index c.index-part.result.now
    c.requires.laid h.1 c.deref-other-items.ensures.value c.loop-other-test.true c.index-part.ensures in
    omega (arith, l, letter_in a c.in-Answer.input c.loop-other.other-index c.requires.laid.automaton, few_letters_of a c.requires.laid.automaton)

pub target-requires-clause-letter : goal.target-requires-clause-letter
target-requires-clause-letter c =
    let a = c.args.automaton.now in
    let h : IsPlaceOf a (Answer c.in-Answer.state c.in-Answer.input) = subst (IsPlaceOf a) c.in-Answer.is c.requires.place in
    let l = letter_at a c.args.layout.now c.deref-other-items.result.now c.in-Answer.input c.loop-other.other-index c.index-part.result.now
    c.requires.laid h.1 c.deref-other-items.ensures.value c.loop-other-test.true c.index-part.ensures in
    omega (arith, l, letter_in a c.in-Answer.input c.loop-other.other-index c.requires.laid.automaton)

pub loop-other-preserved : goal.loop-other-preserved
loop-other-preserved c =
    let a = c.args.automaton.now in
    let h : IsPlaceOf a (Answer c.in-Answer.state c.in-Answer.input) = subst (IsPlaceOf a) c.in-Answer.is c.requires.place in
    let l = letter_at a c.args.layout.now c.deref-other-items.result.now c.in-Answer.input c.loop-other.other-index c.index-part.result.now
    c.requires.laid h.1 c.deref-other-items.ensures.value c.loop-other-test.true c.index-part.ensures in
    pushed (λ o. target a c.in-Answer.state (joined a.controllable c.in-Answer.input o))
    [] c.loop-other.list.items c.push-in-loop-other.new.self.items c.loop-other.other-index
    c.target.result c.loop-other.invariant c.in_ok-push-in-Answer.ensures.items (c.target.ensures ∙ ap (target a c.in-Answer.state) l)

pub returns-after-loop-other : goal.returns-after-loop-other
returns-after-loop-other c =
    let a = c.args.automaton.now in
    let n = count (λ o. joined a.controllable 0 o) c.deref-other-items.result.now (output_letters a)
    (c.deref-other-items.ensures.value ∙ c.requires.laid.outputs) in
    let all : c.loop-other.other-index ≡ output_letters a = omega (arith, n) in
    subst (λ (x : Place). c.loop-other.list.items ≡ leads a x) (sym c.in-Answer.is)
    (subst (λ (k : ℕ). c.loop-other.list.items ≡ map (λ o. target a c.in-Answer.state (joined a.controllable c.in-Answer.input o))
    (range_with_len 0 k)) all c.loop-other.invariant)
