use Rattle.std.proofs.Common.{sym}
use Rattle.pg_map.proofs.Tables.{rows_size}
use Rattle.pg_map.proofs.row_table.RowTable.len.Goals as goal

pub returns : goal.returns
returns c = sym (rows_size _ _ _ _ c.self.view_is)
