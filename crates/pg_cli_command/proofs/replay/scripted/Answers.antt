use Rattle.pg_cli_command.proofs.Common.{rules, parting_of, text_fault, script_fault, RefusesReplay, Fails}
use Rattle.pg_cli_command.proofs.Refusing.{no_game, told_so, refused_by}
use Rattle.pg_cli_command.proofs.Replaying.{no_script, script_told}
use Rattle.pg_cli_command.proofs.replay.scripted.Goals as goal

pub returns-in_err-game-in-Some-clause-refused : goal.returns-in_err-game-in-Some-clause-refused
returns-in_err-game-in-Some-clause-refused c =
    let Refused = Fails (RefusesReplay (parting_of c.args.texts.now)) in
    let first = c.in-Some.first.now in
    let fault = c.in_err-game-in-Some.field-0.0 in
    refused_by Refused c.from_residual.result (text_fault fault) c.from_residual.ensures.1
    (told_so Refused fault tt (λ memory.
    let why = no_game first fault c.in_err-game-in-Some.ensures.only c.in_err-game-in-Some.ensures.refused memory in
    (why.0, search (rules, why.1, c.in-Some.ensures.parted))))

pub returns-in_err-script-in-Some-clause-refused : goal.returns-in_err-script-in-Some-clause-refused
returns-in_err-script-in-Some-clause-refused c =
    let Refused = Fails (RefusesReplay (parting_of c.args.texts.now)) in
    let second = c.in-Some.second.now in
    let game = c.in_ok-game-in-Some.game in
    let fault = c.in_err-script-in-Some.field-0.0 in
    refused_by Refused c.from_residual-in_err-script-in-Some.result (script_fault fault)
    c.from_residual-in_err-script-in-Some.ensures.1
    (script_told Refused fault tt (λ memory. search (
      rules,
      c.in-Some.ensures.parted,
      c.in_ok-game-in-Some.ensures.found,
      no_script second game fault memory c.in_err-script-in-Some.ensures.only,
    )))
