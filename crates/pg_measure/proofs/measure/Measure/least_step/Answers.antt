use Rattle.pg_measure.proofs.Common.{◌≡◌, ◌+◌, length, ◌∙◌, ap, arith, refl, sym, OwnedMeasure, measure_of}
use Rattle.pg_measure.proofs.Steps.{row_length}
use Rattle.pg_measure.proofs.measure.Measure.least_step.Goals as goal

pub step-requires-clause-length : goal.step-requires-clause-length
step-requires-clause-length c =
    let numbers = c.as_mut_slice-numbers.result.now in
    let same : numbers ≡ c.self.inside.row.items = c.as_mut_slice-numbers.ensures.value ∙ (c.in_ok-row.ensures.ok ∙ c.as_slice.ensures) in
    let value : measure_of numbers ≡ c.args.self.now.value = ap measure_of same ∙ ap (λ (m : OwnedMeasure). m.value) c.self.view_is in
    let long = c.self.invariant in
    let k = ap length same in
    let r : length numbers ≡ length c.args.bounds.now + 1 = row_length c.args.bounds.now numbers c.args.self.now.value 0 value c.requires
    (omega arith) (sym c.if-numbers-eq0.true) refl in
    rw c.pairs.ensures.value r
