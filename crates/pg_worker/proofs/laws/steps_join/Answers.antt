use Rattle.pg_worker.proofs.StepsJoined.{from_zeros}
use Rattle.pg_worker.proofs.laws.steps_join.Goals as goal

pub returns : goal.returns
returns c = from_zeros
