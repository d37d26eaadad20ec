use Rattle.pg_measure.proofs.Compare.{order_tells}
use Rattle.pg_measure.proofs.measure.Measure.order_from.Goals as goal

pub returns-in-Some-Some : goal.returns-in-Some-Some
returns-in-Some-Some c =
    order_tells c.args.bounds.now c.args.p c.width_from-width.result _ _ c.in-Some-Some.a.now c.in-Some-Some.b.now _ _ c.cmp.result
    c.in-Some-Some.ensures.value c.in-Some-Some.ensures'.value c.width_from-width.ensures.value c.first.ensures c.first-in-Some-Some.ensures c.cmp.ensures
