use Rattle.pg_hoa_syntax.proofs.Common.{◌≡◌, length, lex, view, ops_from, ops_at}
use Rattle.pg_hoa_syntax.proofs.formula.read_formula.Given as goal

-- what is left gives the same
abbrev pub invariant-tokens : goal.invariant-tokens
invariant-tokens l = ops_from l.kind (view l.reading) (lex l.rest) ≡ ops_at l.kind (lex l.bytes)

abbrev pub decreases-tokens : goal.decreases-tokens
decreases-tokens l = length (lex l.rest)
