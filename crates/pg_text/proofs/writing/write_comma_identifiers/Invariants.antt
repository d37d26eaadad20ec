use Rattle.pg_text.proofs.Common.{take, map, flat_map, Appends, identifier, comma_number}
use Rattle.pg_text.proofs.writing.write_comma_identifiers.Given as goal

abbrev pub invariant-loop-v : goal.invariant-loop-v
invariant-loop-v g l =
    let contents = g.W.Write.contents in
    Appends (contents l.fn.out) (contents l.out) (flat_map comma_number (map (identifier l.game) (take l.v-index l.vertices)))
