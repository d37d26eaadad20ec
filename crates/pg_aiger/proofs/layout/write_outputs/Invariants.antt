use Rattle.pg_aiger.proofs.Common.{map, take, flat_map, Appends, row_text, literal_row}
use Rattle.pg_aiger.proofs.layout.write_outputs.Given as goal

abbrev pub invariant-loop-literal : goal.invariant-loop-literal
invariant-loop-literal g l =
    let contents = g.W.Write.contents in
    Appends (contents l.fn.out) (contents l.out) (flat_map row_text (map literal_row (take l.literal-index l.literals)))
