use Rattle.pg_hoa_syntax.proofs.Common.{◌≡◌, ◌+◌, length, string_len}
use Rattle.pg_hoa_syntax.proofs.Strings.{further}
use Rattle.pg_hoa_syntax.proofs.token.string_len.Given as goal

-- the bytes so far and those of the rest are all
abbrev pub invariant-bytes : goal.invariant-bytes
invariant-bytes l = record {
  all : further l.len (string_len l.rest) ≡ string_len l.bytes;
  len : l.len + length l.rest ≡ length l.bytes;
}

abbrev pub decreases-bytes : goal.decreases-bytes
decreases-bytes l = length l.rest
