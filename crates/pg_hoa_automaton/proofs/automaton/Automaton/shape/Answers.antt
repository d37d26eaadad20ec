use Rattle.pg_hoa_automaton.proofs.ShapeLaws.{shape_says}
use Rattle.pg_hoa_automaton.proofs.automaton.Automaton.shape.Goals as goal

pub returns-clause-says : goal.returns-clause-says
returns-clause-says c = λ condition recurs fits. shape_says condition c.args.self.now.sets c.self.inside.shape recurs fits
