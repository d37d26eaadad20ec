use Rattle.pg_means_look.proofs.Ranking.{none_holds}
use Rattle.pg_means_look.proofs.laws.emptiness.Goals as goal

pub returns : goal.returns
returns c = none_holds
