use Rattle.pg_ltl.proofs.Choosing.{pruned}
use Rattle.pg_ltl.proofs.laws.pruning.Goals as goal

pub returns : goal.returns
returns c = pruned
