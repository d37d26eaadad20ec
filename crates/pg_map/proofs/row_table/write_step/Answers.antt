use Rattle.std.proofs.Common.{◌+◌, ◌-◌, ◌*◌, length, arith}
use borrow.Rule.Slice.PartMut.{put_mid}
use Rattle.pg_map.proofs.Tables.{IsCopied, IsStepped, copied_measure, stepped}
use Rattle.pg_map.proofs.row_table.write_step.Goals as goal

pub step-requires-clause-fits : goal.step-requires-clause-fits
step-requires-clause-fits c =
    let width = length c.args.bounds.now + 1 in
    let i : IsCopied c.args.count width c.args.source c.args.place c.args.cells.now c.copy_row.new.cells =
    record { filled = c.copy_row.ensures.filled; table_is = c.copy_row.ensures.copied } in
    rw (copied_measure c.args.count width c.args.source c.args.place (c.args.place * width + width - c.args.place * width) c.args.cells.now c.copy_row.new.cells
    c.requires.place (omega arith) i)
    c.requires.fits

all : (c : goal.After-slice_known-3-1)
    → IsStepped c.args.bounds.now c.args.strict c.args.front c.args.count (length c.args.bounds.now + 1) c.args.source c.args.place c.args.cells.now
    (put_mid (c.args.place * (length c.args.bounds.now + 1)) (c.args.place * (length c.args.bounds.now + 1) +
    (length c.args.bounds.now + 1) - c.args.place * (length c.args.bounds.now + 1)) c.copy_row.new.cells c.step.new.row)
all c =
    let width = length c.args.bounds.now + 1 in
    let i : IsCopied c.args.count width c.args.source c.args.place c.args.cells.now c.copy_row.new.cells =
    record { filled = c.copy_row.ensures.filled; table_is = c.copy_row.ensures.copied } in
    stepped c.args.bounds.now c.args.strict c.args.front c.args.count width c.args.source c.args.place (c.args.place * width + width - c.args.place * width)
    c.args.cells.now c.copy_row.new.cells c.step.new.row c.requires.place (omega arith) c.step.ensures.length i c.step.ensures.least

pub returns-clause-step : goal.returns-clause-step
returns-clause-step c = (all c).step

pub returns-clause-others : goal.returns-clause-others
returns-clause-others c = (all c).others
