use Rattle.pg_check.proofs.Winning.{sound_iff_wins}
use Rattle.pg_check.proofs.laws.sound_iff_wins.Goals as goal

pub returns : goal.returns
returns c = sound_iff_wins
