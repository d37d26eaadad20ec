use Rattle.pg_check_determined.proofs.Decided.{each_has_one_winner}
use Rattle.pg_check_determined.proofs.laws.each_has_one_winner.Goals as goal

pub returns : goal.returns
returns c = each_has_one_winner
