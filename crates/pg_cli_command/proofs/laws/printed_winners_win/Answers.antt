use Rattle.pg_cli_command.proofs.Printed.{wins_as_printed}
use Rattle.pg_cli_command.proofs.laws.printed_winners_win.Goals as goal

pub returns : goal.returns
returns c =
    wins_as_printed c.solution_reads_back.ensures c.closed_maps_sound.ensures c.sound_wins.ensures c.one_winner.ensures
