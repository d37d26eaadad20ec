use Rattle.pg_hoa_syntax.proofs.Common.{◌≡◌, ◌≤◌, length, gap_from}
use Rattle.pg_hoa_syntax.proofs.token.blanks.Given as goal

-- what is left gives the same
abbrev pub invariant-bytes : goal.invariant-bytes
invariant-bytes l = record {
  rest : gap_from l.deep l.rest ≡ gap_from 0 l.bytes;
  few : l.deep ≤ 8192;
}

abbrev pub decreases-bytes : goal.decreases-bytes
decreases-bytes l = length l.rest
