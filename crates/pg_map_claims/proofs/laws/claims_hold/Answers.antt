use Rattle.pg_map_claims.proofs.Claiming.{claims_hold}
use Rattle.pg_map_claims.proofs.laws.claims_hold.Goals as goal

pub returns : goal.returns
returns c = claims_hold
