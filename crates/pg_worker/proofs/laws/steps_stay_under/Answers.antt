use Rattle.pg_worker.proofs.Steps.{stay_under}
use Rattle.pg_worker.proofs.laws.steps_stay_under.Goals as goal

pub returns : goal.returns
returns c = λ bounds lines count ss g h steps map closed taken. stay_under bounds lines count ss g h steps map closed taken
