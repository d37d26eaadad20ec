use Rattle.pg_hoa_syntax.proofs.Common.{◌≡◌, length, lex}
use Rattle.pg_hoa_syntax.specs.Mirrors.HeaderNames.{named_from}
use Rattle.pg_hoa_syntax.proofs.naming.is_named.Given as goal

-- what is left gives the same
abbrev pub invariant-tokens : goal.invariant-tokens
invariant-tokens l = named_from l.name (lex l.rest) ≡ named_from l.name (lex l.bytes)

abbrev pub decreases-tokens : goal.decreases-tokens
decreases-tokens l = length (lex l.rest)
