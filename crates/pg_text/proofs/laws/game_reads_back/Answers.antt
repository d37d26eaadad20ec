use Rattle.pg_text.specs.GameLayout.{game_text}
use Rattle.pg_text.proofs.ReadingBack.{reads_back, spell_one}
use Rattle.pg_text.proofs.laws.game_reads_back.Goals as goal

pub returns : goal.returns
returns c = λ game well limits printable.
    let text = reads_back game well limits printable in
    (text, λ other another. spell_one (game_text game) game other text another)
