use Rattle.std.proofs.Common.{take}
use Rattle.std.specs.Io.KnownBytes.{Appends}
use Rattle.pg_satisfies_texts.specs.Printing.{row_lines}
use Rattle.pg_satisfies_texts.proofs.writing.write_rows.Given as goal

abbrev pub invariant-loop-row : goal.invariant-loop-row
invariant-loop-row g l =
    let contents = g.W.Write.contents in
    Appends (contents l.fn.writer) (contents l.writer) (row_lines (take l.row-index l.rows))
