use Rattle.pg_map.proofs.Tables.{set_row_is}
use Rattle.pg_map.proofs.row_table.set_row.Goals as goal

pub returns-clause-value : goal.returns-clause-value
returns-clause-value c = set_row_is c.args.row.now c.args.list.now _ c.requires c.copy_from_slice.ensures.after
