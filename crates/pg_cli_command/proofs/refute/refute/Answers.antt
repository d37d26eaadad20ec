use Rattle.pg_cli_command.proofs.Common.{◌≡◌, ◌∙◌, ap, sym, subst, length, rules, refl, List, ℕ, ◌<◌, Option, IfSome, Circuit, Fails}
use Rattle.std.specs.Prelude.{is_some}
use Rattle.pg_aiger.specs.CircuitText.{input, output}
use Rattle.pg_aiger.specs.CircuitLayout.{input_names, output_names}
use Rattle.pg_aiger_reader.specs.Views.{circuit_in, symbols_in}
use Rattle.pg_aiger_netlist.specs.Netlists.{IsAcyclic}
use Rattle.pg_verify_environment.specs.Environments.{Says}
use Rattle.pg_aiger.specs.Circuits.{output_at}
use Rattle.pg_aiger_netlist.specs.Netlists.{variable}
use Rattle.pg_aiger_netlist.specs.Hearing.{Hears, IsMoore}
use Rattle.pg_verify.specs.Verdicts as verdicts
use Rattle.pg_cli_command.specs.Mirrors.Looking.{IsUnlooked}
use Rattle.pg_cli_command.specs.Faults.{circuit_fault, tie_fault, netlist_fault, verify_fault}
use Rattle.pg_cli_command.specs.Refuting.{AreOpposed, RefusesRefute, outcome_text}
use Rattle.pg_cli_command.specs.Mirrors.Parting.{parting_of}
use Rattle.pg_cli_command.proofs.Refusing.{refused_by}
use Rattle.pg_cli_command.proofs.Verified.{circuit_refused, tie_refused, netlist_refused, unrefuted, untwinned, tied_length, inputs_named, outputs_named}
use Rattle.pg_cli_command.proofs.refute.refute.Goals as goal

pub returns-in_err-twin-in-Some-clause-refused : goal.returns-in_err-twin-in-Some-clause-refused
returns-in_err-twin-in-Some-clause-refused g c =
    let Kind = g.F.Solver.finds c.args.solver.now in
    let Parts = parting_of c.args.texts in
    let fault = c.in_err-twin-in-Some.field-0.0 in
    refused_by (Fails (RefusesRefute Kind Parts c.args.by_place)) c.from_residual-in_err-twin-in-Some.result (verify_fault fault)
    c.from_residual-in_err-twin-in-Some.ensures.1
    (untwinned Kind Parts c.args.by_place c.in-Some.first.now c.in-Some.second.now c.in_ok-automaton-in-Some.automaton fault
    c.in-Some.ensures.parted c.in_ok-automaton-in-Some.ensures.found c.in_err-twin-in-Some.ensures.refused)

pub returns-in_err-parts-in-Some-clause-refused : goal.returns-in_err-parts-in-Some-clause-refused
returns-in_err-parts-in-Some-clause-refused g c =
    let Refused = Fails (RefusesRefute (g.F.Solver.finds c.args.solver.now) (parting_of c.args.texts) c.args.by_place) in
    let first = c.in-Some.first.now in
    let second = c.in-Some.second.now in
    let fault = c.in_err-parts-in-Some.field-0.0 in
    refused_by Refused c.from_residual-in_err-parts-in-Some.result (circuit_fault fault) c.from_residual-in_err-parts-in-Some.ensures.1
    (circuit_refused Refused second fault tt (λ said none. (first, second, c.in-Some.ensures.parted, (c.in_ok-automaton-in-Some.automaton, c.in_ok-automaton-in-Some.ensures.found, (c.in_ok-twin-in-Some.twin, c.in_ok-twin-in-Some.ensures.counterpart, none))))
    c.in_err-parts-in-Some.ensures.refused)

pub returns-in_err-parts-in-Some-2-clause-refused : goal.returns-in_err-parts-in-Some-2-clause-refused
returns-in_err-parts-in-Some-2-clause-refused g c =
    let Refused = Fails (RefusesRefute (g.F.Solver.finds c.args.solver.now) (parting_of c.args.texts) c.args.by_place) in
    let first = c.in-Some.first.now in
    let second = c.in-Some.second.now in
    let a = c.in_ok-automaton-in-Some.automaton in
    let twin = c.in_ok-twin-in-Some.twin in
    let parts = c.in_ok-parts-in-Some.parts in
    let fault = c.in_err-parts-in-Some-2.field-0.0 in
    refused_by Refused c.from_residual-in_err-parts-in-Some-2.result (tie_fault fault) c.from_residual-in_err-parts-in-Some-2.ensures.1
    (tie_refused Refused c.args.by_place twin (circuit_in parts) (symbols_in parts) fault tt
    (λ why. (first, second, c.in-Some.ensures.parted, (a, c.in_ok-automaton-in-Some.ensures.found, (twin, c.in_ok-twin-in-Some.ensures.counterpart, (circuit_in parts, symbols_in parts, c.in_ok-parts-in-Some.ensures.found, why)))))
    c.in_err-parts-in-Some-2.ensures.refused)

pub returns-in_err-netlist-in-Some-clause-refused : goal.returns-in_err-netlist-in-Some-clause-refused
returns-in_err-netlist-in-Some-clause-refused g c =
    let Parts = parting_of c.args.texts in
    let Refused = Fails (RefusesRefute (g.F.Solver.finds c.args.solver.now) Parts c.args.by_place) in
    let a = c.in_ok-automaton-in-Some.automaton in
    let twin = c.in_ok-twin-in-Some.twin in
    let parts = c.in_ok-parts-in-Some.parts in
    let tied = c.in_ok-parts-in-Some-2.parts in
    let fault = c.in_err-netlist-in-Some.field-0.0 in
    let paired : AreOpposed Parts c.args.by_place a (circuit_in parts) (circuit_in tied) = record {
      first = c.in-Some.first.now;
      second = c.in-Some.second.now;
      parted = c.in-Some.ensures.parted;
      spelt = c.in_ok-automaton-in-Some.ensures.found;
      symbols = symbols_in parts;
      read = c.in_ok-parts-in-Some.ensures.found;
      twin = c.in_ok-twin-in-Some.twin;
      counterpart = c.in_ok-twin-in-Some.ensures.counterpart;
      tied_by = c.in_ok-parts-in-Some-2.ensures.tied;
    } in
    refused_by Refused c.from_residual-in_err-netlist-in-Some.result (netlist_fault fault) c.from_residual-in_err-netlist-in-Some.ensures.1
    (netlist_refused Refused (circuit_in tied) fault tt (λ why. (a, circuit_in parts, circuit_in tied, paired, why)) c.in_err-netlist-in-Some.ensures.fault)

pub verdict_on-requires-clause-inputs : goal.verdict_on-requires-clause-inputs
verdict_on-requires-clause-inputs g c =
    let a = c.in_ok-automaton-in-Some.automaton in
    let twin = c.in_ok-twin-in-Some.twin in
    let parts = c.in_ok-parts-in-Some.parts in
    let tied = c.in_ok-parts-in-Some-2.parts in
    ap (λ (k : Circuit). length k.inputs) c.in_ok-netlist-in-Some.ensures.lists
    ∙ tied_length c.args.by_place input (symbols_in parts) (input_names twin) parts.inputs.items tied.inputs.items c.in_ok-parts-in-Some-2.ensures.tied.inputs
    ∙ inputs_named twin.controllable twin.propositions c.in_ok-twin-in-Some.ensures.counterpart.is_automaton.marks

pub verdict_on-requires-clause-outputs : goal.verdict_on-requires-clause-outputs
verdict_on-requires-clause-outputs g c =
    let a = c.in_ok-automaton-in-Some.automaton in
    let twin = c.in_ok-twin-in-Some.twin in
    let parts = c.in_ok-parts-in-Some.parts in
    let tied = c.in_ok-parts-in-Some-2.parts in
    ap (λ (k : Circuit). length k.outputs) c.in_ok-netlist-in-Some.ensures.lists
    ∙ tied_length c.args.by_place output (symbols_in parts) (output_names twin) parts.outputs.items tied.outputs.items c.in_ok-parts-in-Some-2.ensures.tied.outputs
    ∙ outputs_named twin.controllable twin.propositions c.in_ok-twin-in-Some.ensures.counterpart.is_automaton.marks

pub returns-in_err-verdict-in-Some-clause-refused : goal.returns-in_err-verdict-in-Some-clause-refused
returns-in_err-verdict-in-Some-clause-refused g c =
    let Kind = g.F.Solver.finds c.args.solver.now in
    let Parts = parting_of c.args.texts in
    let a = c.in_ok-automaton-in-Some.automaton in
    let twin = c.in_ok-twin-in-Some.twin in
    let parts = c.in_ok-parts-in-Some.parts in
    let tied = c.in_ok-parts-in-Some-2.parts in
    let fault = c.in_err-verdict-in-Some.field-0.0 in
    let paired : AreOpposed Parts c.args.by_place a (circuit_in parts) (circuit_in tied) = record {
      first = c.in-Some.first.now;
      second = c.in-Some.second.now;
      parted = c.in-Some.ensures.parted;
      spelt = c.in_ok-automaton-in-Some.ensures.found;
      symbols = symbols_in parts;
      read = c.in_ok-parts-in-Some.ensures.found;
      twin = c.in_ok-twin-in-Some.twin;
      counterpart = c.in_ok-twin-in-Some.ensures.counterpart;
      tied_by = c.in_ok-parts-in-Some-2.ensures.tied;
    } in
    refused_by (Fails (RefusesRefute Kind Parts c.args.by_place)) c.from_residual-in_err-verdict-in-Some.result fault
    c.from_residual-in_err-verdict-in-Some.ensures.1
    (unrefuted Kind Parts c.args.by_place a (circuit_in parts) (circuit_in tied) paired
    (subst IsAcyclic c.in_ok-netlist-in-Some.ensures.lists c.in_ok-netlist-in-Some.ensures.acyclic) fault
    (subst (λ (k : Circuit). IsUnlooked Kind twin k fault) c.in_ok-netlist-in-Some.ensures.lists c.in_err-verdict-in-Some.ensures.refused))

pub returns-in-Some-2-clause-refused : goal.returns-in-Some-2-clause-refused
returns-in-Some-2-clause-refused g c =
    let Parts = parting_of c.args.texts in
    let a = c.in_ok-automaton-in-Some.automaton in
    let twin = c.in_ok-twin-in-Some.twin in
    let parts = c.in_ok-parts-in-Some.parts in
    let tied = c.in_ok-parts-in-Some-2.parts in
    let place = c.in-Some-2.place in
    let opposed : AreOpposed Parts c.args.by_place a (circuit_in parts) (circuit_in tied) = record {
      first = c.in-Some.first.now;
      second = c.in-Some.second.now;
      parted = c.in-Some.ensures.parted;
      spelt = c.in_ok-automaton-in-Some.ensures.found;
      symbols = symbols_in parts;
      read = c.in_ok-parts-in-Some.ensures.found;
      twin = twin;
      counterpart = c.in_ok-twin-in-Some.ensures.counterpart;
      tied_by = c.in_ok-parts-in-Some-2.ensures.tied;
    } in
    let hears = subst (λ (o : Option ℕ). IfSome o (λ k. (k < length c.in_ok-netlist-in-Some.netlist.outputs)
    × Hears c.in_ok-netlist-in-Some.netlist (variable (output_at c.in_ok-netlist-in-Some.netlist k)))) c.in-Some-2.is c.in_ok-place-in-Some.ensures.some in
    let there = subst (λ (k : Circuit). (place < length k.outputs) × Hears k (variable (output_at k place))) c.in_ok-netlist-in-Some.ensures.lists hears in
    let acyclic : IsAcyclic (circuit_in tied) = subst IsAcyclic c.in_ok-netlist-in-Some.ensures.lists c.in_ok-netlist-in-Some.ensures.acyclic in
    (a, circuit_in parts, circuit_in tied, opposed, (acyclic, there.0, there.1))

pub returns-clause-answer : goal.returns-clause-answer
returns-clause-answer g c =
    let Parts = parting_of c.args.texts in
    let a = c.in_ok-automaton-in-Some.automaton in
    let twin = c.in_ok-twin-in-Some.twin in
    let parts = c.in_ok-parts-in-Some.parts in
    let tied = c.in_ok-parts-in-Some-2.parts in
    let spelt = c.in_ok-automaton-in-Some.ensures.found in
    let outcome = c.outcome_of.result in
    let acyclic : IsAcyclic (circuit_in tied) = subst IsAcyclic c.in_ok-netlist-in-Some.ensures.lists c.in_ok-netlist-in-Some.ensures.acyclic in
    let paired : AreOpposed Parts c.args.by_place a (circuit_in parts) (circuit_in tied) = record {
      first = c.in-Some.first.now;
      second = c.in-Some.second.now;
      parted = c.in-Some.ensures.parted;
      spelt = spelt;
      symbols = symbols_in parts;
      read = c.in_ok-parts-in-Some.ensures.found;
      twin = twin;
      counterpart = c.in_ok-twin-in-Some.ensures.counterpart;
      tied_by = c.in_ok-parts-in-Some-2.ensures.tied;
    } in
    let same_given : c.in_ok-given-in-Some.given.items ≡ parts.inputs.items = search rules in
    let same_tied : c.in_ok-tied-in-Some.tied.items ≡ tied.inputs.items = search rules in (
      outcome_text parts.inputs.items tied.inputs.items outcome,
      sym (ap (λ (l : List ℕ). outcome_text l c.in_ok-tied-in-Some.tied.items outcome) same_given
          ∙ ap (λ (l : List ℕ). outcome_text parts.inputs.items l outcome) same_tied),
      record {
        automaton = a;
        given = circuit_in parts;
        tied = circuit_in tied;
        opposed = paired;
        acyclic = acyclic;
        moore = subst IsMoore c.in_ok-netlist-in-Some.ensures.lists (c.in_ok-place-in-Some.ensures.none (ap is_some c.in_default.is));
        outcome = outcome;
        says = c.outcome_of.ensures a twin spelt.says.condition (circuit_in tied) c.states-states.ensures.automaton
            c.in_ok-twin-in-Some.ensures.counterpart acyclic spelt.says.shape.fits
            (λ other fits. subst (λ (k : Circuit). verdicts.Says twin other k c.in_ok-verdict-in-Some.verdict) c.in_ok-netlist-in-Some.ensures.lists
            (c.in_ok-verdict-in-Some.ensures.says other fits));
        printed = refl;
      },
    )
