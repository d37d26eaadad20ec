use Rattle.pg_cli_command.proofs.Told.{none_satisfies}
use Rattle.pg_cli_command.proofs.laws.none_satisfies.Goals as goal

pub returns : goal.returns
returns c = none_satisfies c.one_reading.ensures c.shape_tells.ensures c.no_controller.ensures
