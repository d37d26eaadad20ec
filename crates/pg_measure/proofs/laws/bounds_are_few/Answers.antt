use Rattle.pg_measure.proofs.Counted.{bounds_are_few}
use Rattle.pg_measure.proofs.laws.bounds_are_few.Goals as goal

pub returns : goal.returns
returns c = bounds_are_few
