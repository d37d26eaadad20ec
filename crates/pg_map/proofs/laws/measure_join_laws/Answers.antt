use Rattle.pg_map.proofs.Joins.{measure_join_laws}
use Rattle.pg_map.proofs.laws.measure_join_laws.Goals as goal

pub returns : goal.returns
returns c = measure_join_laws
