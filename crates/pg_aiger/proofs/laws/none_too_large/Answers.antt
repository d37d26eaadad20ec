use Rattle.pg_aiger.proofs.Made.{none_too_large}
use Rattle.pg_aiger.proofs.laws.none_too_large.Goals as goal

pub returns : goal.returns
returns c = none_too_large
