use Rattle.pg_cli_command.proofs.Uncontrolled.{no_controller}
use Rattle.pg_cli_command.proofs.laws.no_controller.Goals as goal

pub returns : goal.returns
returns c = no_controller c.unrealizable.ensures
