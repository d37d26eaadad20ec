use Rattle.pg_wire.proofs.Tells.{one_list as one}
use Rattle.pg_wire.proofs.laws.one_list.Goals as goal

pub returns : goal.returns
returns c = one
