use Rattle.pg_cli_command.proofs.Realized.{circuit_accepted}
use Rattle.pg_cli_command.proofs.laws.circuit_accepted.Goals as goal

pub returns : goal.returns
returns c letters =
    circuit_accepted c.circuit_follows.ensures c.circuit_reads_back.ensures c.machine_accepted.ensures letters
