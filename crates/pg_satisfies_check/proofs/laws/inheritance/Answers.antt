use Rattle.pg_satisfies_check.proofs.Slicing.{inheritance}
use Rattle.pg_satisfies_check.proofs.laws.inheritance.Goals as goal

pub returns : goal.returns
returns c = inheritance
