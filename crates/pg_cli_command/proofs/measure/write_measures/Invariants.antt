use Rattle.pg_cli_command.proofs.Common.{take, flat_map, zip, Appends}
use Rattle.pg_cli_command.proofs.Writing.{pair_line}
use Rattle.pg_cli_command.proofs.measure.write_measures.Given as goal

abbrev pub invariant-loop-number : goal.invariant-loop-number
invariant-loop-number g l =
    let contents = g.W.Write.contents in
    Appends (contents l.fn.writer) (contents l.writer) (flat_map pair_line (take l.number (zip l.game (g.M.Measures.map l.map).measures)))
