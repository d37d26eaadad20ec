use Rattle.std.proofs.Common.{length}
use Rattle.pg_synth.proofs.layout.+count_output_letters.Given as goal

abbrev pub decreases-count_output_letters : goal.decreases-count_output_letters
decreases-count_output_letters l = length l.controllable.now
