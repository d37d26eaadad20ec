use Rattle.pg_cli_command.proofs.Realized.{one_verdict}
use Rattle.pg_cli_command.proofs.laws.one_verdict.Goals as goal

pub returns : goal.returns
returns c = one_verdict c.one_reading.ensures c.one_winner.ensures
