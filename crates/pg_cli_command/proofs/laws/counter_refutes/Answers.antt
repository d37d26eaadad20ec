use Rattle.pg_cli_command.proofs.Countered.{counter_refutes}
use Rattle.pg_cli_command.proofs.laws.counter_refutes.Goals as goal

pub returns : goal.returns
returns c = counter_refutes c.circuit_reads_back.ensures
