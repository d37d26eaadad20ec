use Rattle.pg_check.proofs.Common.{ℕ, ◌<◌, HasParityOf, priority}
use Rattle.pg_check.proofs.finding.has_all.Given as goal

abbrev pub invariant-loop-number : goal.invariant-loop-number
invariant-loop-number l = (v : ℕ) → v < l.number → HasParityOf l.player (priority l.game v)
