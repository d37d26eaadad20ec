use Rattle.pg_world.proofs.Running.{runs_never_above}
use Rattle.pg_world.proofs.laws.never_above.Goals as goal

pub returns : goal.returns
returns c = runs_never_above c.of_maps.ensures
