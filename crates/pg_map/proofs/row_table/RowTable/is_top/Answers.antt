use Rattle.std.proofs.Common.{arith, refl}
use Rattle.pg_map.proofs.Tables.{rows_size, row_within, marked}
use Rattle.pg_map.proofs.row_table.RowTable.is_top.Goals as goal

pub overflow_mul-place : goal.overflow_mul-place
overflow_mul-place c = let r = row_within _ _ _ _ c.args.place c.self.view_is c.requires in omega arith

pub index-requires : goal.index-requires
index-requires c = let r = row_within _ _ _ _ c.args.place c.self.view_is c.requires in omega arith

pub returns : goal.returns
returns c =
    let s = rows_size _ _ _ _ c.self.view_is in
    marked _ c.self.inside.count c.self.inside.width c.args.place c.self.inside.cells.items c.args.self.now c.index.result.now c.self.view_is c.self.invariant.wide c.self.invariant.filled (omega arith) c.index.ensures refl
