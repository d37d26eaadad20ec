use Rattle.std.proofs.Common.{◌≡◌, ◌∙◌, length, ap, arith}
use Rattle.pg_synth.specs.Letters.{inputs}
use Rattle.pg_synth.proofs.Letters.{both_parts}
use Rattle.pg_verify.proofs.product.product_if_tied.Goals as goal

pub product_of-requires-clause-outputs : goal.product_of-requires-clause-outputs
product_of-requires-clause-outputs c =
    let a = c.args.automaton.now in
    let marks = c.deref.ensures.value ∙ c.in_ok-controllable.ensures in
    let count = c.count_inputs-inputs.ensures.value ∙ ap inputs marks in
    let long = ap length c.in_ok-controllable.ensures in
    let all = c.len.ensures in
    let kept = c.in_ok-controllable.controllable.ok.0 in
    let both = both_parts a.controllable in
    let test = c.if-outputs.false in
    let outs = c.outputs.ensures in
    omega (arith, count, long, all, kept, both, test, outs)
