use Rattle.pg_aiger.proofs.Runs.{one_step}
use Rattle.pg_aiger.proofs.laws.one_step.Goals as goal

pub returns : goal.returns
returns c = one_step
