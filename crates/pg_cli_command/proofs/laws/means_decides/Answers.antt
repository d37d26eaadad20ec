use Rattle.pg_cli_command.proofs.Told.{means_decides}
use Rattle.pg_cli_command.proofs.laws.means_decides.Goals as goal

pub returns : goal.returns
returns c = means_decides c.one_reading.ensures c.one_reading-2.ensures
