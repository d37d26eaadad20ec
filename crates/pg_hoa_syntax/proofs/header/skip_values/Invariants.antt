use Rattle.pg_hoa_syntax.proofs.Common.{◌≡◌, length, lex, skipped_from}
use Rattle.pg_hoa_syntax.proofs.header.skip_values.Given as goal

-- what is left gives the same
abbrev pub invariant-values : goal.invariant-values
invariant-values l = skipped_from (lex l.rest) ≡ skipped_from (lex l.bytes)

abbrev pub decreases-values : goal.decreases-values
decreases-values l = length (lex l.rest)
