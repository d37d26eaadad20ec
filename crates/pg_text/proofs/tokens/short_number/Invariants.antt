use Rattle.pg_text.proofs.Common.{◌<◌, ◌^◌, drop}
use Rattle.pg_text.proofs.Numbers.{IsReading}
use Rattle.pg_text.proofs.tokens.short_number.Given as goal

abbrev pub invariant-loop-i : goal.invariant-loop-i
invariant-loop-i l = record { small : l.value < 10 ^ l.i; reading : IsReading l.front l.value (drop l.i l.front) }
