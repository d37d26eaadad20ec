use Rattle.pg_aiger.proofs.Runs.{has_one}
use Rattle.pg_aiger.proofs.laws.one_run.Goals as goal

pub returns : goal.returns
returns c = has_one
