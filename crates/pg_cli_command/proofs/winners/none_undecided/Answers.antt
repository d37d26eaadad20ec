use Rattle.pg_cli_command.proofs.Won.{none_undecided}
use Rattle.pg_cli_command.proofs.winners.none_undecided.Goals as goal

pub returns : goal.returns
returns c = none_undecided c.never_undecided.ensures
