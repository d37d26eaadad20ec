use Rattle.pg_check.proofs.Common.{◌≡◌, length}
use Rattle.pg_check.proofs.finding.solved_by.Given as goal

abbrev pub invariant-loop-number : goal.invariant-loop-number
invariant-loop-number l = length l.solution ≡ length l.game
