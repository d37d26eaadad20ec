use Rattle.pg_hoa_syntax.proofs.Common.{length, lex}
use Rattle.pg_hoa_syntax.proofs.BodyTurns.{SetsLeft}
use Rattle.pg_hoa_syntax.proofs.body.read_sets.Given as goal

abbrev pub invariant-numbers : goal.invariant-numbers
invariant-numbers l = SetsLeft l.sets l.numbers.items (lex l.rest) (lex l.bytes)

abbrev pub decreases-numbers : goal.decreases-numbers
decreases-numbers l = length (lex l.rest)
