use Rattle.pg_check.proofs.Wins.{keeps_to, wins}
use Rattle.pg_check.proofs.laws.sound_wins.Goals as goal

pub returns : goal.returns
returns c game solution is_game sound = record {
  keeps = keeps_to game solution is_game sound;
  wins = wins game solution is_game sound;
}
