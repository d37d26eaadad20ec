use Rattle.pg_check.proofs.Wins.{same_winner}
use Rattle.pg_check.proofs.laws.one_winner.Goals as goal

pub returns : goal.returns
returns c = same_winner
