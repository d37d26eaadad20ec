use Rattle.pg_cli_command.proofs.Common.{parting_of, event_fault, RefusesReplay, Fails}
use Rattle.pg_cli_command.proofs.Refusing.{refused_by}
use Rattle.pg_cli_command.proofs.Replaying.{refuses_event, shows_world}
use Rattle.pg_cli_command.proofs.replay.replay.Goals as goal

pub returns-in_err-game-clause-refused : goal.returns-in_err-game-clause-refused
returns-in_err-game-clause-refused c =
    refused_by (Fails (RefusesReplay (parting_of c.args.texts))) c.from_residual.result c.in_err-game.field-0.0 c.from_residual.ensures.1
    c.in_err-game.ensures.refused

pub returns-in_err-run-clause-refused : goal.returns-in_err-run-clause-refused
returns-in_err-run-clause-refused c =
    let Parts = parting_of c.args.texts in
    let refused = c.in_err-run.field-0.0 in
    let stops = rw c.deref.ensures.value at c.in_err-run.ensures.stops in
    refused_by (Fails (RefusesReplay Parts)) c.from_residual-in_err-run.result (event_fault refused.0 refused.1) c.from_residual-in_err-run.ensures.1
    (refuses_event Parts c.in_ok-game.game c.in_ok-game.script.cut c.in_ok-game.script.events.items c.in-Ok.world c.run.new.self refused.0 refused.1
    c.in_ok-game.ensures.found c.in-Ok.ensures.new stops)

pub returns-clause-answer : goal.returns-clause-answer
returns-clause-answer c =
    let runs = rw c.deref.ensures.value at c.in_ok-run.ensures.ok in
    shows_world c.never_above.ensures (parting_of c.args.texts) c.in_ok-game.game c.in_ok-game.script.cut c.in_ok-game.script.events.items
    c.in-Ok.world c.run.new.self c.in_ok-game.ensures.found c.in-Ok.ensures.new runs
