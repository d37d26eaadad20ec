use Rattle.pg_worker.proofs.Sessions.{replies_stay_under as under}
use Rattle.pg_worker.proofs.laws.replies_stay_under.Goals as goal

pub returns : goal.returns
returns c = under
