use Rattle.pg_aiger.proofs.Follows.{one_circuit}
use Rattle.pg_aiger.proofs.laws.one_circuit.Goals as goal

pub returns : goal.returns
returns c = one_circuit
