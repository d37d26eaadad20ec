use Rattle.pg_measure.proofs.OneList.{one_list_of_bounds}
use Rattle.pg_measure.proofs.laws.one_list_of_bounds.Goals as goal

pub returns : goal.returns
returns c = one_list_of_bounds
