use Rattle.pg_aiger.proofs.Common.{◌≡◌, ◌+◌, map, take, flat_map, Appends, row_text, latch_row, latches_from}
use Rattle.pg_aiger.proofs.layout.write_latches.Given as goal

abbrev pub invariant-loop-next : goal.invariant-loop-next
invariant-loop-next g l =
    let contents = g.W.Write.contents in
    (l.variable ≡ l.fn.first + l.next-index)
    × Appends (contents l.fn.out) (contents l.out) (flat_map row_text (map latch_row (latches_from l.fn.first (take l.next-index l.nexts))))
