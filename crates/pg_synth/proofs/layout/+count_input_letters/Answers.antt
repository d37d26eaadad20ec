use Rattle.std.proofs.Common.{◌*◌, ap, arith, ◌∙◌}
use Rattle.pg_synth.proofs.Letters.{rest, first_input, few_input_letters, rest_short}
use Rattle.pg_synth.proofs.layout.+count_input_letters.Goals as goal

pub overflow_mul-result : goal.overflow_mul-result
overflow_mul-result t c =
    let cs = c.args.controllable.now in
    omega (arith, c.count_input_letters-others.ensures, few_input_letters (rest cs) (rest_short cs c.requires))

pub returns-else-first : goal.returns-else-first
returns-else-first t c =
    ap (λ n. 2 * n) c.count_input_letters-others.ensures ∙ first_input c.args.controllable.now _ c.in-len1-up.len_at_least c.if-first.false
