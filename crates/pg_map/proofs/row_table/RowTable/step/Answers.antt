use Rattle.std.proofs.Common.{arith}
use Rattle.pg_map.proofs.Tables.{rows_size}
use Rattle.pg_map.proofs.row_table.RowTable.step.Goals as goal

pub write_step-requires-clause-source : goal.write_step-requires-clause-source
write_step-requires-clause-source c = let s = rows_size _ _ _ _ c.self.view_is in omega arith

pub write_step-requires-clause-place : goal.write_step-requires-clause-place
write_step-requires-clause-place c = let s = rows_size _ _ _ _ c.self.view_is in omega arith
