use Rattle.pg_map.proofs.Tables.{zero_rows}
use Rattle.pg_map.proofs.row_table.RowTable.zeros.Goals as goal

pub returns-clause-zeros : goal.returns-clause-zeros
returns-clause-zeros c =
    zero_rows c.args.count c.args.width c.in-Some.size _ c.requires c.in-Some.ensures.1
    (c.in_ok-cells.ensures.items_if_clones_equal (λ y e. e))
