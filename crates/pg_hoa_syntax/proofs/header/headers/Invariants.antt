use Rattle.pg_hoa_syntax.proofs.Common.{◌≡◌, length, lex, head_in, headers_from}
use Rattle.pg_hoa_syntax.proofs.header.headers.Given as goal

-- what is left, with the head so far, gives the same
abbrev pub invariant-headers : goal.invariant-headers
invariant-headers l = headers_from (head_in l.head) (lex l.rest) ≡ headers_from (head_in l.fn.head) (lex l.bytes)

abbrev pub decreases-headers : goal.decreases-headers
decreases-headers l = length (lex l.rest)
