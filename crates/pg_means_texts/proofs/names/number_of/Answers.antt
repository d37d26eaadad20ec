use Rattle.std.proofs.Common.{◌<◌, length, sym, ◌∙◌, arith}
use Rattle.pg_ltl.proofs.Names.{number_there, number_past}
use Rattle.pg_means_texts.proofs.names.number_of.Goals as goal

pub returns-then-eq-clause-value : goal.returns-then-eq-clause-value
returns-then-eq-clause-value c =
    let lt : c.loop-place.place < length c.args.names.now = omega arith in
    number_there c.args.name.now c.args.names.now c.loop-place.place c.index-names-place.result c.as_slice.result.now lt c.index-names-place.is
    c.as_slice.ensures.value (sym c.if-eq.ensures) ∙ c.loop-place.invariant

pub loop-place-preserved : goal.loop-place-preserved
loop-place-preserved c =
    let lt : c.loop-place.place < length c.args.names.now = omega arith in
    number_past c.args.name.now c.args.names.now c.loop-place.place c.index-names-place.result c.as_slice.result.now lt c.index-names-place.is
    c.as_slice.ensures.value (sym c.if-eq.ensures) ∙ c.loop-place.invariant
