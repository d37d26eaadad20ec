use Rattle.pg_cli_command.proofs.Realized.{none_accepted}
use Rattle.pg_cli_command.proofs.laws.unrealizable.Goals as goal

pub returns : goal.returns
returns c letters = none_accepted c.unrealizable.ensures letters
