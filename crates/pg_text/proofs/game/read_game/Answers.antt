use Rattle.pg_text.proofs.Common.{ap, err_from_is_err_and, arena_fault}
use Rattle.pg_text.proofs.GameTexts.{found_game, spelt_game, only_memory, refuses_lines, refuses_game}
use Rattle.pg_text.proofs.game.read_game.Goals as goal

pub returns-clause-found : goal.returns-clause-found
returns-clause-found c = found_game c.args.bytes.now c.in_ok-builder_of.field-0 c.in_ok-finish.field-0 c.in_ok-builder_of.ensures c.in_ok-finish.ensures.game

pub returns-clause-only : goal.returns-clause-only
returns-clause-only c = λ game spelt. c.in_ok-finish.ensures.only game
    (spelt_game c.args.bytes.now c.in_ok-builder_of.field-0 game c.in_ok-builder_of.ensures spelt)

pub returns-in_err-builder_of-clause-only : goal.returns-in_err-builder_of-clause-only
returns-in_err-builder_of-clause-only c = λ game spelt.
    let p = err_from_is_err_and c.from_residual.result c.from_residual.ensures.1 in
    rw (p.1, p.2) (only_memory c.in_err-builder_of.field-0.0 c.args.bytes.now game c.in_err-builder_of.ensures spelt)

pub returns-in_err-finish-clause-only : goal.returns-in_err-finish-clause-only
returns-in_err-finish-clause-only c = λ game spelt.
    let p = err_from_is_err_and c.from_residual-in_err-finish.result c.from_residual-in_err-finish.ensures.1 in
    rw (p.1, p.2) (ap arena_fault (c.in_err-finish.ensures.only game
    (spelt_game c.args.bytes.now c.in_ok-builder_of.field-0 game c.in_ok-builder_of.ensures spelt)))

pub returns-in_err-builder_of-clause-refused : goal.returns-in_err-builder_of-clause-refused
returns-in_err-builder_of-clause-refused c =
    let p = err_from_is_err_and c.from_residual.result c.from_residual.ensures.1 in
    rw (p.1, p.2) (refuses_lines c.in_err-builder_of.field-0.0 c.args.bytes.now c.in_err-builder_of.ensures)

pub returns-in_err-finish-clause-refused : goal.returns-in_err-finish-clause-refused
returns-in_err-finish-clause-refused c =
    let p = err_from_is_err_and c.from_residual-in_err-finish.result c.from_residual-in_err-finish.ensures.1 in
    rw (p.1, p.2) (refuses_game c.in_err-finish.field-0.0 c.args.bytes.now c.in_ok-builder_of.field-0 c.in_ok-builder_of.ensures c.in_err-finish.ensures.fault)
