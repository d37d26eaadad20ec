use Rattle.pg_synth.proofs.Common.{◌≡◌, ◌*◌, Some, arith, sym, ap, ◌∙◌, Step, IsStepOf, deciding}
use Rattle.pg_synth.proofs.Numbers.{small}
use Rattle.pg_synth.proofs.Places.{deciding_below}
use Rattle.pg_synth.proofs.lines.target.Goals as goal

pub overflow_mul-first : goal.overflow_mul-first
overflow_mul-first c =
    let a = c.args.automaton.now in
    let is = c.requires.laid.automaton in
    let step : Step = record { target = c.in-Some.target; sets = c.in-Some.sets.now } in
    let g : IsStepOf a.states a.sets step = is.steps c.args.state c.args.letter step c.requires.state c.requires.letter (sym c.in-Some.ensures) in
    let e = ap (λ w. c.in-Some.target * w) c.requires.laid.width in
    omega (arith, small a c.in-Some.target is g.target_below, e)

pub overflow_add-first : goal.overflow_add-first
overflow_add-first c =
    let a = c.args.automaton.now in
    let is = c.requires.laid.automaton in
    let step : Step = record { target = c.in-Some.target; sets = c.in-Some.sets.now } in
    let g : IsStepOf a.states a.sets step = is.steps c.args.state c.args.letter step c.requires.state c.requires.letter (sym c.in-Some.ensures) in
    let e = ap (λ w. c.in-Some.target * w) c.requires.laid.width in
    omega (arith, small a c.in-Some.target is g.target_below, e)

pub overflow_add-result : goal.overflow_add-result
overflow_add-result c =
    let a = c.args.automaton.now in
    let is = c.requires.laid.automaton in
    let step : Step = record { target = c.in-Some.target; sets = c.in-Some.sets.now } in
    let g : IsStepOf a.states a.sets step = is.steps c.args.state c.args.letter step c.requires.state c.requires.letter (sym c.in-Some.ensures) in
    let e = ap (λ w. c.in-Some.target * w) c.requires.laid.width in
    omega (arith, small a c.in-Some.target is g.target_below, e)

pub overflow_add-result-in-Some-deciding : goal.overflow_add-result-in-Some-deciding
overflow_add-result-in-Some-deciding c =
    let a = c.args.automaton.now in
    let is = c.requires.laid.automaton in
    let step : Step = record { target = c.in-Some.target; sets = c.in-Some.sets.now } in
    let g : IsStepOf a.states a.sets step = is.steps c.args.state c.args.letter step c.requires.state c.requires.letter (sym c.in-Some.ensures) in
    let e = ap (λ w. c.in-Some.target * w) c.requires.laid.width in
    let same : deciding a.shape step.sets ≡ Some c.in-Some-deciding.set = ap (λ s. deciding s step.sets) (sym c.shape.ensures.value)
    ∙ sym c.in-Some-deciding.ensures in
    omega (arith, small a c.in-Some.target is g.target_below, e, deciding_below a.shape step.sets c.in-Some-deciding.set a.sets g.sets_below same)
