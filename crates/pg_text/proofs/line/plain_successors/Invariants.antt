use Rattle.pg_text.proofs.Common.{length, numbers_at}
use Rattle.pg_text.proofs.Counting.{HaveGathered}
use Rattle.pg_text.proofs.line.plain_successors.Given as goal

abbrev pub invariant-successors : goal.invariant-successors
invariant-successors l = HaveGathered l.list.items l.rest (numbers_at l.bytes)

abbrev pub decreases-successors : goal.decreases-successors
decreases-successors l = length l.rest
