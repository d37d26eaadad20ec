use Rattle.pg_cli_command.proofs.Printed.{any_wins_as_printed}
use Rattle.pg_cli_command.proofs.laws.any_printed_winners_win.Goals as goal

pub returns : goal.returns
returns c = any_wins_as_printed c.solution_reads_back.ensures c.sound_wins.ensures c.one_winner.ensures
