use Rattle.pg_aiger.proofs.Common.{map, take, flat_map, Appends, row_text, gate_row}
use Rattle.pg_aiger.proofs.layout.write_gates.Given as goal

abbrev pub invariant-loop-gate : goal.invariant-loop-gate
invariant-loop-gate g l =
    let contents = g.W.Write.contents in
    Appends (contents l.fn.out) (contents l.out) (flat_map row_text (map gate_row (take l.gate-index l.gates)))
