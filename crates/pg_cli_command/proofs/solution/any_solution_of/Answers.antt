use Rattle.pg_cli_command.proofs.Common.{List, Result, Ok, Err, IfOk, GameVertex, Answer, IsSolution, IsSound, IsSoundSolution, CliFault, MapKind}
use Rattle.pg_cli_command.proofs.Common.{IsSolvedBy}
use Rattle.pg_cli_command.proofs.solution.any_solution_of.Goals as goal

-- the solution of two maps is a sound one that has no choice where the loser owns the vertex
is_sound_solution : (Kind : MapKind) (game : List GameVertex) (result : Result (List Answer) CliFault) → IfOk result (IsSolvedBy Kind game)
    → IfOk result (IsSolution game) → IfOk result (IsSound game) → IfOk result (IsSoundSolution game)
is_sound_solution Kind game (Err fault) solved choices sound = tt
is_sound_solution Kind game (Ok solution) solved choices sound = record {
  choices = choices;
  elsewhere = λ v lt. (solved.solution_of.answers v lt).elsewhere;
  sound = sound;
}

pub returns-in-None-clause-sound : goal.returns-in-None-clause-sound
returns-in-None-clause-sound g c =
    is_sound_solution (g.F.Solver.finds c.args.solver.now) c.args.game.now c.solution_of.result c.solution_of.ensures.solved
    c.solution_of.ensures.solution c.solution_of.ensures.sound
