use Rattle.pg_wire.proofs.Few.{few_bounds as few}
use Rattle.pg_wire.proofs.laws.few_bounds.Goals as goal

pub returns : goal.returns
returns c = few
