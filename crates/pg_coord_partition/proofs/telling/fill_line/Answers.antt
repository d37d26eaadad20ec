use Rattle.std.proofs.Common.{arith, rules}
use Rattle.pg_coord_partition.proofs.Ranges.{vertex_line_is_well}
use Rattle.pg_coord_partition.proofs.telling.fill_line.Goals as goal
use Rattle.pg_coord_partition.proofs.telling.fill_line.Goals.{in-Even, in-Odd}

pub returns-clause-well : goal.returns-clause-well
returns-clause-well c =
    vertex_line_is_well c.args.game.now c.v.inside.0 c.priority.result c.match-owner.owner c.fill_numbers.new.numbers.items
    c.len-vertices.ensures.game c.len-vertices.ensures.limits c.len-vertices.ensures.priorities (omega arith) (search rules)
    (elim c.match-owner.branch [ in-Even w ↦ omega arith | in-Odd w ↦ omega arith ]) (search rules)
