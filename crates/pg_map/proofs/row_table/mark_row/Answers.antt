use Rattle.pg_map.proofs.Tables.{marked_row}
use Rattle.pg_map.proofs.row_table.mark_row.Goals as goal

pub returns-clause-value : goal.returns-clause-value
returns-clause-value c = marked_row c.args.row.now c.requires
