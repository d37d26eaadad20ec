use Rattle.pg_map.proofs.Tables.{copied, copied_same}
use Rattle.pg_map.proofs.row_table.copy_row.Goals as goal

pub returns-then-source-place-clause-copied : goal.returns-then-source-place-clause-copied
returns-then-source-place-clause-copied c =
    rw c.if-source-place.true ((copied_same c.args.count c.args.width c.args.place c.args.cells.now c.requires.filled).table_is)

pub returns-clause-copied : goal.returns-clause-copied
returns-clause-copied c =
    (copied c.args.count c.args.width c.args.source c.args.place c.args.cells.now c.copy_within.new.self c.requires.source c.requires.place c.requires.filled c.copy_within.ensures.after).table_is
