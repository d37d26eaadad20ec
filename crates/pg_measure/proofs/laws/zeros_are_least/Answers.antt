use Rattle.pg_measure.proofs.Rows.{zeros_fit, zero_least}
use Rattle.pg_measure.proofs.laws.zeros_are_least.Goals as goal

pub returns : goal.returns
returns c = λ bounds. (zeros_fit bounds, zero_least bounds)
