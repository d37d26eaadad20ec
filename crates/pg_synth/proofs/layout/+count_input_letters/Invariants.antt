use Rattle.std.proofs.Common.{length}
use Rattle.pg_synth.proofs.layout.+count_input_letters.Given as goal

abbrev pub decreases-count_input_letters : goal.decreases-count_input_letters
decreases-count_input_letters l = length l.controllable.now
