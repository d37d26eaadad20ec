use Rattle.pg_hoa_syntax.proofs.Common.{length, map, lex, edge_in, edges_at}
use Rattle.pg_hoa_syntax.proofs.BodyTurns.{KeptLeft}
use Rattle.pg_hoa_syntax.proofs.body.read_edges.Given as goal

abbrev pub invariant-edges : goal.invariant-edges
invariant-edges l = KeptLeft l.state l.ranges.states l.ranges.propositions l.ranges.sets (map edge_in l.edges.items) l.greatest (lex l.rest)
    (edges_at l.ranges.states l.ranges.propositions l.ranges.sets (lex l.bytes))

abbrev pub decreases-edges : goal.decreases-edges
decreases-edges l = length (lex l.rest)
