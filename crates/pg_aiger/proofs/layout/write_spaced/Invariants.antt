use Rattle.pg_aiger.proofs.Common.{take, flat_map, Appends, spaced_number}
use Rattle.pg_aiger.proofs.layout.write_spaced.Given as goal

abbrev pub invariant-loop-number : goal.invariant-loop-number
invariant-loop-number g l =
    let contents = g.W.Write.contents in
    Appends (contents l.fn.out) (contents l.out) (flat_map spaced_number (take l.number-index l.numbers))
