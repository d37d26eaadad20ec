use Rattle.pg_map_ranks.proofs.Ranking.{ranks_compare}
use Rattle.pg_map_ranks.proofs.laws.ranks_compare.Goals as goal

pub returns : goal.returns
returns c = ranks_compare
