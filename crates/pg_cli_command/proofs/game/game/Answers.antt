use Rattle.pg_cli_command.proofs.Common.{hoa_fault, synth_fault, RefusesGame, Fails}
use Rattle.pg_cli_command.proofs.Refusing.{refused_by}
use Rattle.pg_cli_command.proofs.Made.{text_refused, game_refused}
use Rattle.pg_cli_command.proofs.game.game.Goals as goal

pub returns-in_err-automaton-clause-refused : goal.returns-in_err-automaton-clause-refused
returns-in_err-automaton-clause-refused c =
    let Refused = Fails (RefusesGame c.args.text.items) in
    let fault = c.in_err-automaton.field-0.0 in
    refused_by Refused c.from_residual.result (hoa_fault fault) c.from_residual.ensures.1
    (text_refused Refused c.args.text.items fault tt (λ said no. no) (rw (← c.deref.ensures.value) c.in_err-automaton.ensures.refused))

pub returns-in_err-made-clause-refused : goal.returns-in_err-made-clause-refused
returns-in_err-made-clause-refused c =
    let Refused = Fails (RefusesGame c.args.text.items) in
    let fault = c.in_err-made.field-0.0 in
    refused_by Refused c.from_residual-in_err-made.result (synth_fault fault) c.from_residual-in_err-made.ensures.1
    (game_refused Refused c.args.text.items c.in_ok-automaton.automaton (rw (← c.deref.ensures.value) c.in_ok-automaton.ensures.found) fault tt
    (λ over. over) c.in_err-made.ensures.fault)
