use Rattle.pg_aiger.proofs.Follows.{circuit_follows}
use Rattle.pg_aiger.proofs.laws.circuit_follows.Goals as goal

pub returns : goal.returns
returns c = circuit_follows
