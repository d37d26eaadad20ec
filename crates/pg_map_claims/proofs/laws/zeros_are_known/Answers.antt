use Rattle.pg_map_claims.proofs.Claiming.{zeros_are_known}
use Rattle.pg_map_claims.proofs.laws.zeros_are_known.Goals as goal

pub returns : goal.returns
returns c = zeros_are_known
