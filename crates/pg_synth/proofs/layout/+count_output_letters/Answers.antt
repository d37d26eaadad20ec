use Rattle.std.proofs.Common.{◌*◌, ap, arith, ◌∙◌}
use Rattle.pg_synth.proofs.Letters.{rest, first_output, few_output_letters, rest_short}
use Rattle.pg_synth.proofs.layout.+count_output_letters.Goals as goal

pub overflow_mul-result : goal.overflow_mul-result
overflow_mul-result t c =
    let cs = c.args.controllable.now in
    omega (arith, c.count_output_letters-others.ensures, few_output_letters (rest cs) (rest_short cs c.requires))

pub returns-then-first : goal.returns-then-first
returns-then-first t c =
    ap (λ n. 2 * n) c.count_output_letters-others.ensures ∙ first_output c.args.controllable.now _ c.in-len1-up.len_at_least c.if-first.true
