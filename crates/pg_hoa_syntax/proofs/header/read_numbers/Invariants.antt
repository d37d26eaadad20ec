use Rattle.pg_hoa_syntax.proofs.Common.{length, map, lex}
use Rattle.pg_hoa_syntax.proofs.HeaderTurns.{NumbersLeft}
use Rattle.pg_hoa_syntax.proofs.header.read_numbers.Given as goal

abbrev pub invariant-numbers : goal.invariant-numbers
invariant-numbers l = NumbersLeft (map (λ y. y.0) l.numbers.items) (lex l.rest) (lex l.bytes)

abbrev pub decreases-numbers : goal.decreases-numbers
decreases-numbers l = length (lex l.rest)
