use Rattle.pg_synth.proofs.Common.{◌∙◌, decides_last}
use Rattle.pg_synth.proofs.place.deciding.Goals as goal

pub returns-in_default : goal.returns-in_default
returns-in_default c =
    decides_last c.args.shape c.args.sets.now c.copied-in_default.result c.in_default.not-MinEven c.in_default.not-MinOdd
    (c.copied-in_default.ensures ∙ c.last.ensures.value)
