use Rattle.pg_check_determined.proofs.Decided.{has_sound_solution}
use Rattle.pg_check_determined.proofs.laws.has_sound_solution.Goals as goal

pub returns : goal.returns
returns c = has_sound_solution
