use Rattle.pg_map.proofs.Duals.{game_lines_are_dual}
use Rattle.pg_map.proofs.laws.game_lines_are_dual.Goals as goal

pub returns : goal.returns
returns c = game_lines_are_dual
