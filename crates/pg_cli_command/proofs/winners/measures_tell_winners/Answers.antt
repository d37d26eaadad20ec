use Rattle.pg_cli_command.proofs.Won.{measures_tell_winners}
use Rattle.pg_cli_command.proofs.winners.measures_tell_winners.Goals as goal

pub returns : goal.returns
returns c = measures_tell_winners c.least_tells_winners.ensures
