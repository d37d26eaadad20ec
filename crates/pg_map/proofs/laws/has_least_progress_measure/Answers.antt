use Rattle.pg_map.proofs.Existing.{has_least_progress_measure}
use Rattle.pg_map.proofs.laws.has_least_progress_measure.Goals as goal

pub returns : goal.returns
returns c = has_least_progress_measure
