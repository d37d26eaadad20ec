use Rattle.pg_measure.proofs.Widths.{components_are_first}
use Rattle.pg_measure.proofs.laws.components_are_first.Goals as goal

pub returns : goal.returns
returns c = λ bounds p xs b. components_are_first bounds p xs b.falling
