use Rattle.pg_synth.proofs.Machines.{answer_holds}
use Rattle.pg_synth.proofs.laws.answer_holds.Goals as goal

pub returns : goal.returns
returns c = answer_holds
