use Rattle.std.proofs.lemmas.Result.{err_from_is_err_and}
use Rattle.pg_world.proofs.ScriptHeads.{whole, only_whole, is_memory}
use Rattle.pg_world.proofs.script.read_script.Goals as goal

pub returns-in_err-cut-clause-only : goal.returns-in_err-cut-clause-only
returns-in_err-cut-clause-only c = λ cut events text.
    let p = err_from_is_err_and c.from_residual.result c.from_residual.ensures.1 in
    rw (p.1, p.2) (is_memory c.in_err-cut.field-0.0 (λ other. c.in_err-cut.ensures.refused other cut events text))

pub returns-in_err-events-clause-only : goal.returns-in_err-events-clause-only
returns-in_err-events-clause-only c = λ cut events text.
    let p = err_from_is_err_and c.from_residual-in_err-events.result c.from_residual-in_err-events.ensures.1 in
    rw (p.1, p.2) (is_memory c.in_err-events.field-0.0 (λ other. c.in_err-events.ensures.refused other events (c.in_ok-cut.ensures.only cut events text).1))

pub returns-clause-found : goal.returns-clause-found
returns-clause-found c =
    let head = c.in_ok-cut.ensures.head in
    whole c.args.bytes.now c.args.game.now c.in_ok-cut.cut c.in_ok-cut.rest.now c.in_ok-events.events.items head head.few c.in_ok-events.ensures.read

pub returns-clause-only : goal.returns-clause-only
returns-clause-only c = only_whole c.args.bytes.now c.args.game.now c.in_ok-cut.cut c.in_ok-cut.rest.now c.in_ok-events.events.items c.len-vertices.ensures.game c.in_ok-cut.ensures.only c.in_ok-events.ensures.read
