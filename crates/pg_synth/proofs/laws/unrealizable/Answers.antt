use Rattle.pg_synth.proofs.Machines.{unrealizable}
use Rattle.pg_synth.proofs.laws.unrealizable.Goals as goal

pub returns : goal.returns
returns c = unrealizable
