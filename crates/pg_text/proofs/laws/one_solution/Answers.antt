use Rattle.pg_text.proofs.SolutionReadingBack.{spells_one}
use Rattle.pg_text.proofs.laws.one_solution.Goals as goal

pub returns : goal.returns
returns c = spells_one
