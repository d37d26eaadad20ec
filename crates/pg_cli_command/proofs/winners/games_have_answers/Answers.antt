use Rattle.pg_cli_command.proofs.Won.{games_have_answers}
use Rattle.pg_cli_command.proofs.winners.games_have_answers.Goals as goal

pub returns : goal.returns
returns c = games_have_answers c.has_bounds.ensures c.game_lines.ensures c.has_least_progress_measure.ensures c.never_undecided.ensures c.decided_maps_solve.ensures
