use Rattle.pg_aiger.proofs.Common.{map, flat_map, Appends, row_text, literal_row, literals_from}
use Rattle.pg_aiger.proofs.layout.write_inputs.Given as goal

abbrev pub invariant-loop-input : goal.invariant-loop-input
invariant-loop-input g l =
    let contents = g.W.Write.contents in
    Appends (contents l.fn.out) (contents l.out) (flat_map row_text (map literal_row (literals_from 1 l.input)))
