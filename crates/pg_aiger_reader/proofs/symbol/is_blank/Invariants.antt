use Rattle.pg_aiger_reader.proofs.Common.{◌≡◌, length, is_blank}
use Rattle.pg_aiger_reader.proofs.symbol.is_blank.Given as goal

-- the empty lines before change nothing
abbrev pub invariant-lines : goal.invariant-lines
invariant-lines l = is_blank l.rest ≡ is_blank l.bytes

abbrev pub decreases-lines : goal.decreases-lines
decreases-lines l = length l.rest
