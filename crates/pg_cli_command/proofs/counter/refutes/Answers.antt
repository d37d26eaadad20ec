use Rattle.pg_cli_command.proofs.Common.{◌≡◌, subst, rules, Circuit}
use Rattle.std.specs.Prelude.{is_some, false}
use Rattle.pg_aiger_netlist.specs.Netlists.{IsAcyclic}
use Rattle.pg_aiger_netlist.specs.Hearing.{IsMoore}
use Rattle.pg_verify.specs.Verdicts as verdicts
use Rattle.pg_cli_command.proofs.counter.refutes.Goals as goal

pub returns-in-Refutes-clause-refutes : goal.returns-in-Refutes-clause-refutes
returns-in-Refutes-clause-refutes g c = λ yes.
    let a = c.args.automaton.now in
    let twin = c.args.twin.now in
    let k = c.args.circuit.now in
    let acyclic : IsAcyclic k = subst IsAcyclic c.in-Ok.ensures c.latches-latches.ensures.acyclic in
    let none : is_some c.in_ok-hearing_output.field-0 ≡ false = search rules in (
      subst IsMoore c.in-Ok.ensures (c.in_ok-hearing_output.ensures.none none),
      λ condition fits. c.in-Refutes.ensures a twin condition k c.requires.automaton c.requires.counterpart acyclic fits
          (λ other fit. subst (λ (n : Circuit). verdicts.Says twin other n c.in-Ok-verdict_on.verdict) c.in-Ok.ensures
          (c.in-Ok-verdict_on.ensures.says other fit)),
    )
