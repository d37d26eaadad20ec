use Rattle.pg_text.proofs.ReadingBack.{spell_one}
use Rattle.pg_text.proofs.laws.one_game.Goals as goal

pub returns : goal.returns
returns c = spell_one
