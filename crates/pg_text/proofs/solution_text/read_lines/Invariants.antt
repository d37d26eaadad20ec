use Rattle.std.proofs.Common.{length}
use Rattle.pg_text.proofs.SolutionReads.{Reading}
use Rattle.pg_text.proofs.solution_text.read_lines.Given as goal

abbrev pub invariant-lines : goal.invariant-lines
invariant-lines l = Reading l.bytes l.game l.solution l.seen.items l.rest

abbrev pub decreases-lines : goal.decreases-lines
decreases-lines l = length l.rest
