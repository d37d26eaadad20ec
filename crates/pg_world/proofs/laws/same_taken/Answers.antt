use Rattle.pg_world.proofs.Joining.{one_join}
use Rattle.pg_world.proofs.laws.same_taken.Goals as goal

pub returns : goal.returns
returns c = one_join
