use Rattle.pg_means_look.proofs.Ranking.{same}
use Rattle.pg_means_look.proofs.laws.sameness.Goals as goal

pub returns : goal.returns
returns c = same
