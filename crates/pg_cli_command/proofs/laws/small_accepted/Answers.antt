use Rattle.pg_cli_command.proofs.Smaller.{small_accepted}
use Rattle.pg_cli_command.proofs.laws.small_accepted.Goals as goal

pub returns : goal.returns
returns c letters =
    small_accepted c.one_run.ensures c.circuit_follows.ensures c.circuit_reads_back.ensures c.machine_accepted.ensures letters
