use Rattle.pg_world.proofs.Common.{◌<◌, ◌∙◌, ap, ℕ, Option, Ok, arith, option_map}
use Rattle.pg_world.proofs.ScriptHeads.{fails_workers, fails_none, fails_many, fails_cut, fails_misfit, head, only_head, some_holds, none_holds}
use Rattle.pg_world.proofs.script.read_head.Goals as goal

pub returns-in-Err-clause-refused : goal.returns-in-Err-clause-refused
returns-in-Err-clause-refused c = λ other. fails_workers c.args.bytes.now c.args.game.now c.in-Err.fault c.requires c.in-Err.ensures

pub returns-in-Ok-None-default-clause-refused : goal.returns-in-Ok-None-default-clause-refused
returns-in-Ok-None-default-clause-refused c = λ other. fails_none c.args.bytes.now c.args.game.now c.in-Ok-None-default.field-0-1.now c.requires
    (c.in-Ok-None-default.ensures ∙ ap (λ (o : Option ℕ). Ok (o, c.in-Ok-None-default.field-0-1.now)) c.in-Ok-None-default.field-0-0-is)

pub returns-then-workers-gt-MAX_WORKERS-clause-refused : goal.returns-then-workers-gt-MAX_WORKERS-clause-refused
returns-then-workers-gt-MAX_WORKERS-clause-refused c = λ other.
    let more = c.if-workers-gt-MAX_WORKERS.true in
    let many : 16 < c.in-Ok-Some-default.workers = omega arith in
    fails_many c.args.bytes.now c.args.game.now c.in-Ok-Some-default.workers c.in-Ok-Some-default.rest.now c.requires
    (c.in-Ok-Some-default.ensures ∙ ap (λ (o : Option ℕ). Ok (o, c.in-Ok-Some-default.rest.now)) c.in-Ok-Some-default.field-0-0-is) many

pub returns-in-Err-cut_numbers-clause-refused : goal.returns-in-Err-cut_numbers-clause-refused
returns-in-Err-cut_numbers-clause-refused c =
    rw c.of_refusal.ensures
    (fails_cut c.args.bytes.now c.args.game.now c.in-Ok-Some-default.workers c.in-Ok-Some-default.rest.now c.in-Err-cut_numbers.refusal _ c.requires
    (c.in-Ok-Some-default.ensures ∙ ap (λ (o : Option ℕ). Ok (o, c.in-Ok-Some-default.rest.now)) c.in-Ok-Some-default.field-0-0-is)
    c.in-Err-cut_numbers.ensures)

pub returns-in-Some-clause-head : goal.returns-in-Some-clause-head
returns-in-Some-clause-head c =
    let is = some_holds _ c.in_ok-cut.field-0 c.in-Some.cut c.in-Some.is c.in_ok-cut.ensures.cut in
    head c.args.bytes.now c.args.game.now c.in-Ok-Some-default.workers c.in-Ok-Some-default.rest.now
    (option_map (λ list. list.items) c.in-Ok.read.0) c.in-Ok.read.1.now c.in-Some.cut
    (c.in-Ok-Some-default.ensures ∙ ap (λ (o : Option ℕ). Ok (o, c.in-Ok-Some-default.rest.now)) c.in-Ok-Some-default.field-0-0-is)
    c.in-Ok.ensures c.if-workers-gt-MAX_WORKERS.false is.0 is.1

pub returns-in-Some-clause-only : goal.returns-in-Some-clause-only
returns-in-Some-clause-only c =
    let is = some_holds _ c.in_ok-cut.field-0 c.in-Some.cut c.in-Some.is c.in_ok-cut.ensures.cut in
    only_head c.args.bytes.now c.args.game.now c.in-Ok-Some-default.workers c.in-Ok-Some-default.rest.now
    (option_map (λ list. list.items) c.in-Ok.read.0) c.in-Ok.read.1.now c.in-Some.cut c.requires
    (c.in-Ok-Some-default.ensures ∙ ap (λ (o : Option ℕ). Ok (o, c.in-Ok-Some-default.rest.now)) c.in-Ok-Some-default.field-0-0-is) c.in-Ok.ensures is.0 is.1

pub returns-in-None-clause-refused : goal.returns-in-None-clause-refused
returns-in-None-clause-refused c = λ other.
    fails_misfit c.args.bytes.now c.args.game.now c.in-Ok-Some-default.workers c.in-Ok-Some-default.rest.now
    (option_map (λ list. list.items) c.in-Ok.read.0) c.in-Ok.read.1.now c.requires
    (c.in-Ok-Some-default.ensures ∙ ap (λ (o : Option ℕ). Ok (o, c.in-Ok-Some-default.rest.now)) c.in-Ok-Some-default.field-0-0-is) c.in-Ok.ensures
    (none_holds _ c.in_ok-cut.field-0 c.in-None.is c.in_ok-cut.ensures.none)
