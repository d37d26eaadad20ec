use Rattle.pg_measure.proofs.Compare.{cmp_tells}
use Rattle.pg_measure.proofs.ordering.MeasureOrd.cmp.Goals as goal

pub returns-in-Some-Some-clause-order : goal.returns-in-Some-Some-clause-order
returns-in-Some-Some-clause-order c =
    rw (← c.in-Some-Some.ensures.value, ← c.in-Some-Some.ensures'.value) (cmp_tells _ _ c.cmp.result c.cmp.ensures)
