use Rattle.pg_check.proofs.Common.{ℕ, ◌<◌}
use Rattle.pg_check.proofs.Chosen.{AnswersUpto}
use Rattle.pg_check.proofs.OneParity.{WinsAnyhow}
use Rattle.pg_check.proofs.finding.won_by.Given as goal

abbrev pub invariant-loop-number : goal.invariant-loop-number
invariant-loop-number l = AnswersUpto l.game (WinsAnyhow l.game l.winner) l.solution l.number
