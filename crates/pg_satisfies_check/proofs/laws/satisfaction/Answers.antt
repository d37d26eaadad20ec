use Rattle.pg_satisfies_check.proofs.Judging.{satisfaction}
use Rattle.pg_satisfies_check.proofs.laws.satisfaction.Goals as goal

pub returns : goal.returns
returns c = satisfaction
