use Rattle.pg_check.proofs.Cycles.{sound_from_safe, safe_from_sound}
use Rattle.pg_check.proofs.laws.sound_iff_safe.Goals as goal

pub returns : goal.returns
returns c game solution is_game = (safe_from_sound game solution, sound_from_safe game solution is_game)
