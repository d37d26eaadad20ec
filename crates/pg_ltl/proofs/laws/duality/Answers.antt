use Rattle.pg_ltl.proofs.Holding.{duality}
use Rattle.pg_ltl.proofs.laws.duality.Goals as goal

pub returns : goal.returns
returns c = duality
