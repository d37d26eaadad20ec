use Rattle.pg_ltl.proofs.Normality.{normality}
use Rattle.pg_ltl.proofs.laws.normality.Goals as goal

pub returns : goal.returns
returns c = normality
