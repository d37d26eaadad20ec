use Rattle.pg_map.proofs.Common.{◌≡◌, ◌+◌, ◌-◌, ◌*◌, set, ◌∙◌, ap, arith, table}
use Rattle.pg_map.proofs.Tables.{put_row, length-row}
use Rattle.pg_map.proofs.row_table.write_top.Goals as goal

pub returns : goal.returns
returns c =
    let w = c.args.width in
    let k : c.args.place * w + w - c.args.place * w ≡ w = omega arith in
    put_row c.args.count w c.args.place _ c.args.cells.now c.mark_row.new.row c.requires.place k c.requires.filled
    (c.mark_row.ensures.length ∙ length-row c.args.count w c.args.place _ c.args.cells.now c.requires.place k c.requires.filled)
    ∙ ap (set (table c.args.count w c.args.cells.now) c.args.place) c.mark_row.ensures.value
