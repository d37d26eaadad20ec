use Rattle.pg_measure.proofs.Compare.{measure_cmp_tells}
use Rattle.pg_measure.proofs.laws.comparing_tells_order.Goals as goal

pub returns : goal.returns
returns c = measure_cmp_tells
