use Rattle.pg_world.proofs.Common.{◌∙◌, ap, Option, Ok, err_from_is_err_and, ScriptLine}
use Rattle.pg_world.proofs.ScriptLines.{line_shorter}
use Rattle.pg_world.proofs.ScriptReads.{goes, finishes, fails_line, fails_event}
use Rattle.pg_world.proofs.script.read_events.Goals as goal

pub returns-in_err-event-in-Ok-Some-default-clause-refused : goal.returns-in_err-event-in-Ok-Some-default-clause-refused
returns-in_err-event-in-Ok-Some-default-clause-refused c =
    let p = err_from_is_err_and c.from_residual.result c.from_residual.ensures.1 in
    rw (p.1, p.2) (λ other. fails_event c.args.bytes.now c.args.game.now c.lines.events.items c.lines.rest.now c.in-Ok-Some-default.line c.in-Ok-Some-default.after.now c.lines.invariant
    (c.in-Ok-Some-default.ensures ∙ ap
    (λ (o : Option ScriptLine). Ok
    (o, c.in-Ok-Some-default.after.now)) c.in-Ok-Some-default.field-0-0-is) c.in_err-event-in-Ok-Some-default.ensures.none)

pub lines-smaller : goal.lines-smaller
lines-smaller c = line_shorter c.lines.rest.now c.in-Ok-Some-default.line c.in-Ok-Some-default.after.now
    (c.in-Ok-Some-default.ensures ∙ ap (λ (o : Option ScriptLine). Ok (o, c.in-Ok-Some-default.after.now)) c.in-Ok-Some-default.field-0-0-is)

pub lines-preserved : goal.lines-preserved
lines-preserved c =
    rw c.in_ok-push-in-Ok-Some-default.ensures.items
    (goes c.args.bytes.now c.args.game.now c.lines.events.items c.lines.rest.now c.in-Ok-Some-default.line c.in-Ok-Some-default.after.now c.in_ok-event-in-Ok-Some-default.event c.lines.invariant
    (c.in-Ok-Some-default.ensures ∙ ap
    (λ (o : Option ScriptLine). Ok
    (o, c.in-Ok-Some-default.after.now)) c.in-Ok-Some-default.field-0-0-is) c.in_ok-event-in-Ok-Some-default.ensures.found)

pub returns-in-Ok-None-default-clause-read : goal.returns-in-Ok-None-default-clause-read
returns-in-Ok-None-default-clause-read c =
    finishes c.args.bytes.now c.args.game.now c.lines.events.items c.lines.rest.now c.in-Ok-None-default.field-0-1.now c.lines.invariant
    (c.in-Ok-None-default.ensures ∙ ap (λ (o : Option ScriptLine). Ok (o, c.in-Ok-None-default.field-0-1.now)) c.in-Ok-None-default.field-0-0-is)

pub returns-in-Err-clause-refused : goal.returns-in-Err-clause-refused
returns-in-Err-clause-refused c = λ other. fails_line c.args.bytes.now c.args.game.now c.lines.events.items c.lines.rest.now c.in-Err.fault c.lines.invariant c.in-Err.ensures
