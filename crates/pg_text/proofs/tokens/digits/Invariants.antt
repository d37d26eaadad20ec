use Rattle.std.proofs.Common.{◌<◌, ◌^◌, length}
use Rattle.pg_text.proofs.Numbers.{IsReading}
use Rattle.pg_text.proofs.tokens.digits.Given as goal

abbrev pub invariant-digits : goal.invariant-digits
invariant-digits l = record { small : l.value < 2 ^ 32; reading : IsReading l.bytes l.value l.rest }

abbrev pub decreases-digits : goal.decreases-digits
decreases-digits l = length l.rest
