use Rattle.pg_map.proofs.Common.{◌≡◌, ◌+◌, ◌-◌, ◌*◌, ◌∙◌, ap, arith, measure_at, RowsValue}
use Rattle.pg_map.proofs.Tables.{rows_size, row_within, row_is}
use Rattle.pg_map.proofs.row_table.RowTable.row.Goals as goal

pub overflow_mul-start : goal.overflow_mul-start
overflow_mul-start c = let r = row_within _ _ _ _ c.args.place c.self.view_is c.requires in omega arith

pub overflow_add-result : goal.overflow_add-result
overflow_add-result c = let r = row_within _ _ _ _ c.args.place c.self.view_is c.requires in omega arith

pub offset_bounds-deref-start : goal.offset_bounds-deref-start
offset_bounds-deref-start c = let r = row_within _ _ _ _ c.args.place c.self.view_is c.requires in omega arith

pub slice_bounds-result-end : goal.slice_bounds-result-end
slice_bounds-result-end c = let r = row_within _ _ _ _ c.args.place c.self.view_is c.requires in omega arith

pub returns-clause-value : goal.returns-clause-value
returns-clause-value c =
    let s = rows_size _ _ _ _ c.self.view_is in
    let k : c.args.place * c.self.inside.width + c.self.inside.width - c.args.place * c.self.inside.width ≡ c.self.inside.width = omega arith in
    rw c.deref.ensures.value (row_is c.self.inside.count c.self.inside.width c.args.place _ c.self.inside.cells.items (omega arith) k
    ∙ ap (λ (m : RowsValue). measure_at m.measures c.args.place) c.self.view_is)
