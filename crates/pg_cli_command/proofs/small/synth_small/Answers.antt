use Rattle.pg_cli_command.proofs.Common.{◌++◌, Option, IfSome, refl, inl, subst, sym, circuit_text, realizable, Automaton, Circuit, Spelt}
use Rattle.pg_cli_command.specs.Mirrors.Small.{IsAcceptedBy}
use Rattle.pg_cli_command.proofs.small.synth_small.Goals as goal

pub returns-in-Some-2-clause-answer : goal.returns-in-Some-2-clause-answer
returns-in-Some-2-clause-answer g c =
    let a = c.in_ok-automaton.field-0.automaton in
    let k = c.in-Some-2.small in
    let found : IsAcceptedBy a k =
    subst (λ (o : Option Circuit). IfSome o (IsAcceptedBy a)) c.in-Some-2.is c.in_ok-small.ensures.accepted in
    let spelt : Spelt c.args.text.items a = c.in_ok-automaton.ensures.spelt in (
      realizable ++ circuit_text k a,
      refl,
      inl (record {
        automaton = a;
        spelt = spelt;
        is_automaton = c.in_ok-automaton.ensures.automaton;
        circuit = k;
        shaped = found.0;
        correct = found.1 spelt.says.condition spelt.says.shape.fits;
        printed = refl;
      }),
    )
