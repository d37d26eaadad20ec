use Rattle.pg_cli_command.proofs.Told.{controller_satisfies}
use Rattle.pg_cli_command.proofs.laws.controller_satisfies.Goals as goal

pub returns : goal.returns
returns c letters = controller_satisfies c.one_reading.ensures c.shape_tells.ensures letters (c.small_accepted.ensures letters)
