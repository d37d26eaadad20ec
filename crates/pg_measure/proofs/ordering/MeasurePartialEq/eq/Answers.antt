use Rattle.pg_measure.proofs.Compare.{equal_tells}
use Rattle.pg_measure.proofs.ordering.MeasurePartialEq.eq.Goals as goal

pub returns-clause-same : goal.returns-clause-same
returns-clause-same c =
    equal_tells c.args.self.now.value c.args.other.now.value c.cmp.result c.is_eq.result c.is_eq.ensures c.cmp.ensures.order
