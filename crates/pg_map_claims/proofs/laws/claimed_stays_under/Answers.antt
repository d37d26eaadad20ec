use Rattle.pg_map_claims.proofs.Claiming.{claimed_stays_under}
use Rattle.pg_map_claims.proofs.laws.claimed_stays_under.Goals as goal

pub returns : goal.returns
returns c = claimed_stays_under
