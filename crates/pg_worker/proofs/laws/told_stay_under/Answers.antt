use Rattle.pg_worker.proofs.Under.{told_stay_under as under}
use Rattle.pg_worker.proofs.laws.told_stay_under.Goals as goal

pub returns : goal.returns
returns c = under
