use Rattle.pg_map.proofs.Common.{◌≡◌, ◌+◌, ◌-◌, ◌*◌, length, set, ◌∙◌, ap, arith, table}
use Rattle.pg_map.proofs.Tables.{put_row, length-row}
use Rattle.pg_map.proofs.row_table.write_list.Goals as goal

pub returns : goal.returns
returns c =
    let w = length c.args.list.now + 1 in
    let k : c.args.place * (length c.args.list.now + 1) + (length c.args.list.now + 1) - c.args.place *
    (length c.args.list.now + 1) ≡ length c.args.list.now + 1 = omega arith in
    put_row c.args.count (length c.args.list.now + 1) c.args.place _ c.args.cells.now c.set_row.new.row c.requires.place k c.requires.filled (c.set_row.ensures.length ∙ length-row c.args.count (length c.args.list.now + 1) c.args.place _ c.args.cells.now c.requires.place k c.requires.filled)
    ∙ ap (set (table c.args.count (length c.args.list.now + 1) c.args.cells.now) c.args.place) c.set_row.ensures.value
