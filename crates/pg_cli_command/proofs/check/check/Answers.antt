use Rattle.pg_cli_command.proofs.Common.{rules, inl, inr, parting_of, text_fault, RefusesCheck, Fails}
use Rattle.pg_cli_command.proofs.Refusing.{no_game, no_solution, told_so, refused_by}
use Rattle.pg_cli_command.proofs.Verdicts.{verdict_within}
use Rattle.pg_cli_command.proofs.check.check.Goals as goal

pub returns-in_err-game-in-Some-clause-refused : goal.returns-in_err-game-in-Some-clause-refused
returns-in_err-game-in-Some-clause-refused c =
    let Refused = Fails (RefusesCheck (parting_of c.args.texts)) in
    let first = c.in-Some.first.now in
    let fault = c.in_err-game-in-Some.field-0.0 in
    refused_by Refused c.from_residual.result (text_fault fault) c.from_residual.ensures.1
    (told_so Refused fault tt (λ memory.
    let why = no_game first fault c.in_err-game-in-Some.ensures.only c.in_err-game-in-Some.ensures.refused memory in
    (why.0, inl (search (rules, why.1, c.in-Some.ensures.parted)))))

pub returns-in_err-solution-in-Some-clause-refused : goal.returns-in_err-solution-in-Some-clause-refused
returns-in_err-solution-in-Some-clause-refused c =
    let Refused = Fails (RefusesCheck (parting_of c.args.texts)) in
    let second = c.in-Some.second.now in
    let game = c.in_ok-game-in-Some.game in
    let fault = c.in_err-solution-in-Some.field-0.0 in
    refused_by Refused c.from_residual-in_err-solution-in-Some.result (text_fault fault) c.from_residual-in_err-solution-in-Some.ensures.1
    (told_so Refused fault tt (λ memory.
    let why = no_solution second game fault c.in_err-solution-in-Some.ensures.only c.in_err-solution-in-Some.ensures.refused memory in
    (why.0, inr (search (rules, why.1, c.in_ok-game-in-Some.ensures.found, c.in-Some.ensures.parted)))))

pub returns-clause-whole : goal.returns-clause-whole
returns-clause-whole c =
    verdict_within c.in_ok-game-in-Some.game c.in_ok-solution-in-Some.solution c.in_ok-game-in-Some.ensures.found.game_of.well c.in_ok-verdict-in-Some.verdict
    c.in_ok-verdict-in-Some.ensures.refutes
