use Rattle.pg_ltl.proofs.Choosing.{covered}
use Rattle.pg_ltl.proofs.laws.coverage.Goals as goal

pub returns : goal.returns
returns c = covered
