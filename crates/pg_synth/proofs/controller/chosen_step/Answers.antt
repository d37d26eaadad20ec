use Rattle.pg_synth.proofs.Common.{◌≡◌, ◌+◌, ℕ, ◌<◌, Option, Some, None, IsSome, option_map, arith, refl, sym, subst, ap, ◌∙◌}
use Rattle.pg_synth.proofs.Common.{Step, next, step, joined, input_letters, output_letters, FollowsAt, IsLeastIfAny, IsWonAt}
use Rattle.pg_synth.proofs.Choosing.{IsChosen, IsLed, chosen_is, least_is, led_on}
use Rattle.pg_synth.proofs.Numbers.{count, few_letters_of, letter_is}
use Rattle.pg_synth.proofs.Places.{letter_in}
use Rattle.pg_synth.proofs.controller.chosen_step.Goals as goal
use Rattle.pg_synth.proofs.controller.chosen_step.Goals.{After-unwrap-chosen, After-unwrap-output, After-index-2, After-unwrap-target}

mapped : {X Y : Type 0} (f : X → Y) (r : Option X) (y : Y) → option_map f r ≡ Some y → IsSome r
mapped f None y e = absurd (cc e)
mapped f (Some x) y e = refl

mapped_is : {X Y : Type 0} (f : X → Y) (r : Option X) (x : X) (y : Y) → option_map f r ≡ Some y → r ≡ Some x → f x ≡ y
mapped_is f r x y e h = let both : Some (f x) ≡ Some y = ap (option_map f) (sym h) ∙ e in cc

chosen : (c : After-unwrap-chosen) → IsChosen c.args.automaton.now c.args.synth.now.game c.args.solution.now c.args.state c.args.input c.unwrap-chosen.result
chosen c =
    chosen_is c.args.automaton.now c.args.synth.now.game c.args.solution.now c.args.state c.args.input c.args.answer c.unwrap-chosen.result
    c.requires.won.game_of c.requires.won.solution_of c.requires.won.sound c.requires.answer c.requires.wins (sym c.choice.ensures ∙ c.unwrap-chosen.ensures)

led : (c : After-unwrap-output) → IsChosen c.args.automaton.now c.args.synth.now.game c.args.solution.now c.args.state c.args.input c.unwrap-chosen.result
    → IsLed c.args.automaton.now c.args.synth.now.game c.args.solution.now c.args.state c.args.input c.unwrap-output.result
led c chosen =
    led_on c.args.automaton.now c.args.synth.now.game c.args.solution.now c.args.state c.args.input c.args.answer c.unwrap-chosen.result
    c.identifier-identifier.result c.unwrap-output.result c.requires.laid.automaton c.requires.won.game_of c.requires.won.sound c.requires.answer
    (sym c.choice.ensures ∙ c.unwrap-chosen.ensures) chosen c.identifier-identifier.ensures
    (subst (IsLeastIfAny c.args.automaton.now c.args.state c.args.input c.identifier-identifier.result) c.unwrap-output.ensures c.least_output.ensures)

letter : (c : After-index-2) → IsLed c.args.automaton.now c.args.synth.now.game c.args.solution.now c.args.state c.args.input c.unwrap-output.result
    → c.index.result.now + c.index-2.result.now ≡ joined c.args.automaton.now.controllable c.args.input c.unwrap-output.result
letter c s =
    letter_is c.args.automaton.now c.args.layout.now c.args.input c.unwrap-output.result c.index.result.now c.index-2.result.now c.index.result.now c.index-2.result.now
    c.requires.laid c.requires.answer.is_place.1 s.follows.output_in c.index.ensures c.index-2.ensures

target : (c : After-unwrap-target) (s : IsLed c.args.automaton.now c.args.synth.now.game c.args.solution.now c.args.state c.args.input c.unwrap-output.result)
    → c.index.result.now + c.index-2.result.now ≡ joined c.args.automaton.now.controllable c.args.input c.unwrap-output.result
    → s.step.target ≡ c.unwrap-target.result.0
target c s l =
    sym (ap (λ (x : Step). x.target) (mapped_is (λ x. step x.0 x.1.now) c.next.result c.unwrap-target.result s.step
    (c.next.ensures ∙ ap (next c.args.automaton.now c.args.state) l ∙ s.steps) c.unwrap-target.ensures))

pub identifier-identifier-requires : goal.identifier-identifier-requires
identifier-identifier-requires c = (chosen (goal.at.identifier-identifier-requires c).After-unwrap-chosen).in_game

pub unwrap-output-requires : goal.unwrap-output-requires
unwrap-output-requires c =
    let least = least_is c.args.automaton.now c.args.synth.now.game c.args.solution.now c.args.state c.args.input
    c.unwrap-chosen.result c.identifier-identifier.result c.least_output.result
    (chosen (goal.at.unwrap-output-requires c).After-unwrap-chosen) c.identifier-identifier.ensures c.least_output.ensures in
    subst IsSome (sym least.1) refl

pub index-requires : goal.index-requires
index-requires c =
    let a = c.args.automaton.now in
    let n = count (λ i. joined a.controllable i 0) c.args.layout.now.inputs.items (input_letters a) c.requires.laid.inputs in
    let l = c.requires.answer.is_place.1 in
    omega (arith, l, n, c.args.layout.now.inputs.ok.0)

pub index-requires-2 : goal.index-requires-2
index-requires-2 c =
    let a = c.args.automaton.now in
    let at = goal.at.index-requires-2 c in
    let s = led at.After-unwrap-output (chosen at.After-unwrap-chosen) in
    omega (
      arith,
      s.follows.output_in,
      count (λ o. joined a.controllable 0 o) c.args.layout.now.outputs.items
          (output_letters a) c.requires.laid.outputs,
      c.args.layout.now.outputs.ok.0,
    )

pub overflow_add-letter : goal.overflow_add-letter
overflow_add-letter c =
    let a = c.args.automaton.now in
    let at = goal.at.overflow_add-letter c in
    let s = led at.After-unwrap-output (chosen at.After-unwrap-chosen) in
    omega (
      arith,
      letter at.After-index-2 s,
      letter_in a c.args.input c.unwrap-output.result c.requires.laid.automaton,
      few_letters_of a c.requires.laid.automaton,
    )

pub unwrap-target-requires : goal.unwrap-target-requires
unwrap-target-requires c =
    let at = goal.at.unwrap-target-requires c in
    let s = led at.After-unwrap-output (chosen at.After-unwrap-chosen) in
    mapped (λ x. step x.0 x.1.now) c.next.result s.step (c.next.ensures ∙ ap (next c.args.automaton.now c.args.state) (letter at.After-index-2 s) ∙ s.steps)

pub returns-clause-follows : goal.returns-clause-follows
returns-clause-follows c =
    let at = goal.at.returns-clause-follows c in
    let s = led at.After-unwrap-output (chosen at.After-unwrap-chosen) in
    subst (FollowsAt c.args.automaton.now c.args.synth.now.game c.args.solution.now c.args.state c.args.input c.unwrap-output.result)
    (target at.After-unwrap-target s (letter at.After-index-2 s)) s.follows

pub returns-clause-won : goal.returns-clause-won
returns-clause-won c =
    let at = goal.at.returns-clause-won c in
    let s = led at.After-unwrap-output (chosen at.After-unwrap-chosen) in
    subst (IsWonAt c.args.automaton.now c.args.synth.now.game c.args.solution.now) (target at.After-unwrap-target s (letter at.After-index-2 s)) s.won

pub returns-clause-below : goal.returns-clause-below
returns-clause-below c =
    let at = goal.at.returns-clause-below c in
    let s = led at.After-unwrap-output (chosen at.After-unwrap-chosen) in
    subst (λ (q : ℕ). q < c.args.automaton.now.states) (target at.After-unwrap-target s (letter at.After-index-2 s)) s.below
