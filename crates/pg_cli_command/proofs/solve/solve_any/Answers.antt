use Rattle.pg_cli_command.proofs.Common.{text_fault, RefusesSolve, Fails}
use Rattle.pg_cli_command.proofs.Refusing.{no_game, told_so, refused_by}
use Rattle.pg_cli_command.proofs.solve.solve_any.Goals as goal

pub returns-in_err-game-clause-refused : goal.returns-in_err-game-clause-refused
returns-in_err-game-clause-refused g c =
    let Refused = Fails (RefusesSolve (g.F.Solver.finds c.args.solver.now) c.args.text.items) in
    let fault = c.in_err-game.field-0.0 in
    refused_by Refused c.from_residual.result (text_fault fault) c.from_residual.ensures.1
    (told_so Refused fault tt (no_game c.args.text.items fault (rw (← c.deref.ensures.value) c.in_err-game.ensures.only)
    (rw (← c.deref.ensures.value) c.in_err-game.ensures.refused)))
