use Rattle.std.proofs.Common.{arith}
use Rattle.pg_map.proofs.Tables.{rows_size}
use Rattle.pg_map.proofs.row_table.RowTable.set.Goals as goal

pub write_list-requires-clause-place : goal.write_list-requires-clause-place
write_list-requires-clause-place c = let s = rows_size _ _ _ _ c.self.view_is in omega arith
