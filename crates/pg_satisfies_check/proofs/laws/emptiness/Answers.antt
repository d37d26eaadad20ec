use Rattle.pg_satisfies_check.proofs.Judging.{emptiness}
use Rattle.pg_satisfies_check.proofs.laws.emptiness.Goals as goal

pub returns : goal.returns
returns c = emptiness
