use Rattle.std.proofs.Common.{arith}
use Rattle.pg_map.proofs.Tables.{rows_size}
use Rattle.pg_map.proofs.row_table.RowTable.set_top.Goals as goal

pub write_top-requires-clause-place : goal.write_top-requires-clause-place
write_top-requires-clause-place c = let s = rows_size _ _ _ _ c.self.view_is in omega arith
