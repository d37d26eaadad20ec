use Rattle.pg_check.specs.Strategies.{IsAnswerOf}
use Rattle.pg_check.proofs.Chosen.{AnswersUpto}
use Rattle.pg_check.proofs.choices.strategies.Given as goal

abbrev pub invariant-loop-number : goal.invariant-loop-number
invariant-loop-number g l =
    AnswersUpto l.game (IsAnswerOf l.game (g.E.Measures.map l.even) (g.O.Measures.map l.odd)) l.solution l.number
