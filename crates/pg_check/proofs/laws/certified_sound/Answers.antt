use Rattle.pg_check.proofs.Certified.{sound_from_certificate}
use Rattle.pg_check.proofs.laws.certified_sound.Goals as goal

pub returns : goal.returns
returns c game f g solution is_game certifies = sound_from_certificate game f g solution certifies is_game
