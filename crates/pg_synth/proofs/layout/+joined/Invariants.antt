use Rattle.std.proofs.Common.{length}
use Rattle.pg_synth.proofs.layout.+joined.Given as goal

abbrev pub decreases-joined : goal.decreases-joined
decreases-joined l = length l.controllable.now
