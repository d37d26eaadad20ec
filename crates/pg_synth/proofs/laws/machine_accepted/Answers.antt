use Rattle.pg_synth.proofs.Machines.{machine_accepted}
use Rattle.pg_synth.proofs.laws.machine_accepted.Goals as goal

pub returns : goal.returns
returns c = machine_accepted
