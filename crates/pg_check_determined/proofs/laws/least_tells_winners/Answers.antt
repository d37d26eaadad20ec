use Rattle.pg_check_determined.proofs.Decided.{least_tells_winners}
use Rattle.pg_check_determined.proofs.laws.least_tells_winners.Goals as goal

pub returns : goal.returns
returns c = least_tells_winners
