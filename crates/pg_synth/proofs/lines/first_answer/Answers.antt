use Rattle.std.proofs.Common.{◌*◌, arith, ap}
use Rattle.pg_synth.proofs.Numbers.{small}
use Rattle.pg_synth.proofs.lines.first_answer.Goals as goal

pub overflow_mul-result : goal.overflow_mul-result
overflow_mul-result c =
    let a = c.args.automaton.now in
    let e = ap (λ w. c.args.state * w) c.requires.laid.width in
    omega (arith, small a c.args.state c.requires.laid.automaton c.requires.state, e)

pub overflow_add-result : goal.overflow_add-result
overflow_add-result c =
    let a = c.args.automaton.now in
    let e = ap (λ w. c.args.state * w) c.requires.laid.width in
    omega (arith, small a c.args.state c.requires.laid.automaton c.requires.state, e)

pub overflow_add-result-2 : goal.overflow_add-result-2
overflow_add-result-2 c =
    let a = c.args.automaton.now in
    let e = ap (λ w. c.args.state * w) c.requires.laid.width in
    omega (arith, small a c.args.state c.requires.laid.automaton c.requires.state, e, c.sets.ensures)

pub overflow_add-result-3 : goal.overflow_add-result-3
overflow_add-result-3 c =
    let a = c.args.automaton.now in
    let e = ap (λ w. c.args.state * w) c.requires.laid.width in
    omega (arith, small a c.args.state c.requires.laid.automaton c.requires.state, e, c.sets.ensures)
