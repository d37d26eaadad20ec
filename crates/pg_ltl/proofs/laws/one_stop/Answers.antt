use Rattle.pg_ltl.proofs.OneStop.{one_stop}
use Rattle.pg_ltl.proofs.laws.one_stop.Goals as goal

pub returns : goal.returns
returns c = one_stop
