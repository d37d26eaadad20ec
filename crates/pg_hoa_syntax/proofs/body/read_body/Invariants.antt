use Rattle.pg_hoa_syntax.proofs.Common.{length, map, lex, line_in, body_at}
use Rattle.pg_hoa_syntax.proofs.BodyTurns.{LinesLeft}
use Rattle.pg_hoa_syntax.proofs.body.read_body.Given as goal

abbrev pub invariant-lines : goal.invariant-lines
invariant-lines l = LinesLeft l.ranges.states l.ranges.propositions l.ranges.sets l.seen.items (map line_in l.lines.items) (lex l.rest)
    (body_at l.ranges.states l.ranges.propositions l.ranges.sets (lex l.bytes))

abbrev pub decreases-lines : goal.decreases-lines
decreases-lines l = length (lex l.rest)
