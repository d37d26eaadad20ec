use Rattle.pg_check.proofs.Deciding.{decided_maps_solve}
use Rattle.pg_check.proofs.laws.decided_maps_solve.Goals as goal

pub returns : goal.returns
returns c = decided_maps_solve
