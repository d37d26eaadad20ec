use Rattle.pg_verify_environment.proofs.Together.{decides}
use Rattle.pg_verify_environment.proofs.laws.counterpart_decides.Goals as goal

pub returns : goal.returns
returns c = decides
