use Rattle.pg_aiger.proofs.Common.{◌≡◌, length, map, flat_map, Appends, symbol, row_text, symbols_from, kind_of, names_until}
use Rattle.pg_aiger.proofs.layout.write_symbols.Given as goal

abbrev pub invariant-loop-a : goal.invariant-loop-a
invariant-loop-a g l =
    let contents = g.W.Write.contents in
    let names = names_until l.controlled l.automaton l.a in
    (l.position ≡ length names)
    × Appends (contents l.fn.out) (contents l.out) (flat_map row_text (map symbol (symbols_from (kind_of l.controlled) 0 names)))
