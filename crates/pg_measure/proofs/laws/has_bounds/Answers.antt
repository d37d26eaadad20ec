use Rattle.pg_measure.proofs.SomeBounds.{has_bounds}
use Rattle.pg_measure.proofs.laws.has_bounds.Goals as goal

pub returns : goal.returns
returns c = has_bounds
