use Rattle.pg_hoa_automaton.proofs.ShapeLaws.{shape_says}
use Rattle.pg_hoa_automaton.proofs.laws.shape_tells.Goals as goal

pub returns : goal.returns
returns c = shape_says
