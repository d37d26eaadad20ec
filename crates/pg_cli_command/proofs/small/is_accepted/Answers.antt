use Rattle.pg_cli_command.proofs.Common.{subst, Circuit}
use Rattle.pg_verify.specs.Verdicts.{IsCorrect, Says}
use Rattle.pg_verify.specs.declared.verdict.CircuitVerdict.{CircuitVerdict}
use Rattle.pg_cli_command.proofs.small.is_accepted.Goals as goal

pub returns-in-Ok-Accepted-clause-accepted : goal.returns-in-Ok-Accepted-clause-accepted
returns-in-Ok-Accepted-clause-accepted g c = λ yes condition fits.
    let a = c.args.automaton.now in
    subst (λ (k : Circuit). IsCorrect a condition k) c.in-Ok.ensures
    (subst (λ (v : CircuitVerdict). Says a condition c.in-Ok.netlist v) c.in-Ok-Accepted.field-0-is (c.in-Ok-Accepted.ensures.says condition fits))
