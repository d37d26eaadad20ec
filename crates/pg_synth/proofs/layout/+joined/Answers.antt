use Rattle.std.proofs.Common.{◌/◌, arith}
use Rattle.pg_synth.proofs.Letters.{rest, joined_in, few_letters, rest_short}
use Rattle.pg_synth.proofs.layout.+joined.Goals as goal

pub overflow_mul-result : goal.overflow_mul-result
overflow_mul-result t c =
    let cs = c.args.controllable.now in
    omega (arith, c.joined.ensures, joined_in (rest cs) c.args.input (c.args.output / 2), few_letters (rest cs) (rest_short cs c.requires))

pub overflow_add-result : goal.overflow_add-result
overflow_add-result t c =
    let cs = c.args.controllable.now in
    omega (arith, c.joined.ensures, joined_in (rest cs) c.args.input (c.args.output / 2), few_letters (rest cs) (rest_short cs c.requires))

pub overflow_mul-result-else-first : goal.overflow_mul-result-else-first
overflow_mul-result-else-first t c =
    let cs = c.args.controllable.now in
    omega (arith, c.joined-else-first.ensures, joined_in (rest cs) (c.args.input / 2) c.args.output, few_letters (rest cs) (rest_short cs c.requires))

pub overflow_add-result-else-first : goal.overflow_add-result-else-first
overflow_add-result-else-first t c =
    let cs = c.args.controllable.now in
    omega (arith, c.joined-else-first.ensures, joined_in (rest cs) (c.args.input / 2) c.args.output, few_letters (rest cs) (rest_short cs c.requires))
