use Rattle.pg_text.proofs.Common.{length, numbers_at}
use Rattle.pg_text.proofs.Parts.{HaveCome}
use Rattle.pg_text.proofs.reading.numbers.Given as goal

abbrev pub invariant-numbers : goal.invariant-numbers
invariant-numbers l = HaveCome l.list.items l.rest (numbers_at l.bytes)

abbrev pub decreases-numbers : goal.decreases-numbers
decreases-numbers l = length l.rest
