use Rattle.pg_cli_command.proofs.Common.{List, ℕ, subst, Fails}
use Rattle.pg_ltl.specs.Texts.{IsRefused}
use Rattle.pg_cli_command.specs.Faults.{formula_fault}
use Rattle.pg_cli_command.specs.Translating.{RefusesAutomaton}
use Rattle.pg_cli_command.proofs.Meant.{formula_refused}
use Rattle.pg_cli_command.proofs.Refusing.{refused_by}
use Rattle.pg_cli_command.proofs.automaton.automaton.Goals as goal

pub returns-in_err-names-clause-refused : goal.returns-in_err-names-clause-refused
returns-in_err-names-clause-refused g c =
    let input = c.args.text.items in
    let fault = c.in_err-names.field-0.0 in
    refused_by (Fails (RefusesAutomaton input)) c.from_residual.result (formula_fault fault) c.from_residual.ensures.1
    (formula_refused input fault (subst (λ (bytes : List ℕ). IsRefused bytes fault) c.deref.ensures.value c.in_err-names.ensures.refused))
