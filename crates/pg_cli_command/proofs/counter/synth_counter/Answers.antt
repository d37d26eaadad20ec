use Rattle.pg_cli_command.proofs.Common.{◌≡◌, ◌++◌, Option, Some, None, IfSome, inl, inr, refl, subst, rules, circuit_text, realizable, Automaton, Circuit, Spelt}
use Rattle.pg_cli_command.specs.Synthesising.{unrealizable}
use Rattle.pg_cli_command.specs.Mirrors.Counter.{IsCounterTo}
use Rattle.pg_cli_command.specs.Mirrors.Synthesised.{outcome_text}
use Rattle.pg_cli_command.proofs.Countered.{realized_of, unrealized_of}
use Rattle.pg_cli_command.proofs.counter.synth_counter.Goals as goal

pub returns-in-Some-clause-answer : goal.returns-in-Some-clause-answer
returns-in-Some-clause-answer g c =
    let Kind = g.F.Solver.finds c.args.solver.now in
    let a = c.in_ok-automaton.field-0.automaton in
    let k = c.in-Some.circuit in
    let said = c.in_ok-automaton.ensures.answer in
    let is : c.in_ok-automaton.field-0.circuit ≡ Some k = search rules in (
      realizable ++ circuit_text k a,
      refl,
      inl (realized_of Kind c.args.text.items said.0 a k (subst (λ (o : Option Circuit). said.0 ≡ outcome_text a o) is said.1) said.2),
    )

pub returns-in-Err-TooLarge-clause-refused : goal.returns-in-Err-TooLarge-clause-refused
returns-in-Err-TooLarge-clause-refused g c =
    let a = c.in_ok-automaton.field-0.automaton in
    let said = c.in_ok-automaton.ensures.answer in
    let is : c.in_ok-automaton.field-0.circuit ≡ None = search rules in
    unrealized_of (g.F.Solver.finds c.args.solver.now) c.args.text.items said.0 a (subst (λ (o : Option Circuit). said.0 ≡ outcome_text a o) is said.1) said.2

pub returns-in-Some-2-clause-answer : goal.returns-in-Some-2-clause-answer
returns-in-Some-2-clause-answer g c =
    let Kind = g.F.Solver.finds c.args.solver.now in
    let a = c.in_ok-automaton.field-0.automaton in
    let twin = c.in-Ok.twin in
    let k = c.in-Some-2.circuit in
    let said = c.in_ok-automaton.ensures.answer in
    let is : c.in_ok-automaton.field-0.circuit ≡ None = search rules in
    let found : IsCounterTo a twin k = subst (λ (o : Option Circuit). IfSome o (IsCounterTo a twin)) c.in-Some-2.is c.in_ok-circuit.ensures.refutes in
    let spelt : Spelt c.args.text.items a = c.in_ok-automaton.ensures.spelt in (
      unrealizable ++ circuit_text k twin,
      refl,
      inr (
        unrealized_of Kind c.args.text.items said.0 a (subst (λ (o : Option Circuit). said.0 ≡ outcome_text a o) is said.1) said.2,
        record {
          automaton = a;
          spelt = spelt;
          twin = twin;
          counterpart = c.in-Ok.ensures.counterpart;
          circuit = k;
          shaped = found.0;
          moore = found.1.0;
          refutes = found.1.1 spelt.says.condition spelt.says.shape.fits;
          printed = refl;
        },
      ),
    )

pub returns-clause-refused : goal.returns-clause-refused
returns-clause-refused g c =
    let a = c.in_ok-automaton.field-0.automaton in
    let said = c.in_ok-automaton.ensures.answer in
    let is : c.in_ok-automaton.field-0.circuit ≡ None = search rules in
    unrealized_of (g.F.Solver.finds c.args.solver.now) c.args.text.items said.0 a (subst (λ (o : Option Circuit). said.0 ≡ outcome_text a o) is said.1) said.2
