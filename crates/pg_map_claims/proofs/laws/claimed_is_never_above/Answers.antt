use Rattle.pg_map_claims.proofs.Claiming.{claimed_is_never_above}
use Rattle.pg_map_claims.proofs.laws.claimed_is_never_above.Goals as goal

pub returns : goal.returns
returns c = claimed_is_never_above
