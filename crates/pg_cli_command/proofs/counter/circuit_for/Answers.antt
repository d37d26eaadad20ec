use Rattle.pg_cli_command.proofs.Common.{◌≡◌, ◌∙◌, ◌+◌, length, sym, subst, inputs, outputs, arith}
use Rattle.pg_synth.proofs.Letters.{both_parts}
use Rattle.pg_aiger.proofs.Made.{length_literals}
use Rattle.pg_cli_command.specs.Small.{IsShaped}
use Rattle.pg_cli_command.proofs.counter.circuit_for.Goals as goal

pub returns : goal.returns
returns c =
    let a = c.args.automaton.now in
    let kept = c.in_ok-circuit.ensures.kept in
    let controlled = c.count_controlled-controlled.ensures.value in
    let both : inputs a.controllable + outputs a.controllable ≡ length a.controllable = both_parts a.controllable in
    subst (IsShaped a) (sym c.in_ok-circuit.ensures.parts) (record {
      numbered = kept.numbered;
      within = omega (arith, kept.within);
      inputs = length_literals 1 _ ∙ omega (arith, both, controlled, c.requires.marks, c.propositions.ensures, c.count_controlled-controlled.ensures.within);
      outputs = omega (arith, c.if-len-controlled.false, controlled, c.len.ensures);
    })
