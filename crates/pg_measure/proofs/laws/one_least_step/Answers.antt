use Rattle.pg_measure.proofs.Order.{at_most_same_value}
use Rattle.pg_measure.proofs.laws.one_least_step.Goals as goal

pub returns : goal.returns
returns c = λ bounds p m r s a b. at_most_same_value r s (a.least s b.fits b.covers) (b.least r a.fits a.covers)
