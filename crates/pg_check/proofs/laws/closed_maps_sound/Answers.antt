use Rattle.pg_check.proofs.Certified.{certifies_from_closed, sound_from_certificate}
use Rattle.pg_check.proofs.laws.closed_maps_sound.Goals as goal

pub returns : goal.returns
returns c game f g solution is_game closed is =
    sound_from_certificate game f g solution (certifies_from_closed game f g solution is_game closed is) is_game
