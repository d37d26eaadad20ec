use Rattle.pg_cli_command.proofs.Common.{◌≡◌, ◌∙◌, ap, sym, subst, length, rules, refl, List, ℕ, Circuit, Fails}
use Rattle.pg_aiger.specs.CircuitText.{input, output}
use Rattle.pg_aiger.specs.CircuitLayout.{input_names, output_names}
use Rattle.pg_aiger_reader.specs.Views.{circuit_in, symbols_in}
use Rattle.pg_aiger_netlist.specs.Netlists.{IsAcyclic}
use Rattle.pg_verify.specs.Reached.{HasTooManyStates}
use Rattle.pg_verify.specs.Verdicts.{Says}
use Rattle.pg_cli_command.specs.Mirrors.Looking.{IsUnlooked}
use Rattle.pg_cli_command.specs.Faults.{circuit_fault, tie_fault, netlist_fault}
use Rattle.pg_cli_command.specs.Verifying.{ArePaired, RefusesVerify, verdict_text}
use Rattle.pg_cli_command.specs.Mirrors.Parting.{parting_of}
use Rattle.pg_cli_command.proofs.Refusing.{refused_by}
use Rattle.pg_cli_command.proofs.Verified.{circuit_refused, tie_refused, netlist_refused, unlooked, tied_length, inputs_named, outputs_named}
use Rattle.pg_cli_command.proofs.verify.verify.Goals as goal

pub returns-in_err-parts-in-Some-clause-refused : goal.returns-in_err-parts-in-Some-clause-refused
returns-in_err-parts-in-Some-clause-refused g c =
    let Refused = Fails (RefusesVerify (g.F.Solver.finds c.args.solver.now) (parting_of c.args.texts) c.args.by_place) in
    let first = c.in-Some.first.now in
    let second = c.in-Some.second.now in
    let fault = c.in_err-parts-in-Some.field-0.0 in
    refused_by Refused c.from_residual-in_err-parts-in-Some.result (circuit_fault fault) c.from_residual-in_err-parts-in-Some.ensures.1
    (circuit_refused Refused second fault tt (λ said none. (first, second, c.in-Some.ensures.parted, (c.in_ok-automaton-in-Some.automaton, c.in_ok-automaton-in-Some.ensures.found, none)))
    c.in_err-parts-in-Some.ensures.refused)

pub returns-in_err-parts-in-Some-2-clause-refused : goal.returns-in_err-parts-in-Some-2-clause-refused
returns-in_err-parts-in-Some-2-clause-refused g c =
    let Refused = Fails (RefusesVerify (g.F.Solver.finds c.args.solver.now) (parting_of c.args.texts) c.args.by_place) in
    let first = c.in-Some.first.now in
    let second = c.in-Some.second.now in
    let a = c.in_ok-automaton-in-Some.automaton in
    let parts = c.in_ok-parts-in-Some.parts in
    let fault = c.in_err-parts-in-Some-2.field-0.0 in
    refused_by Refused c.from_residual-in_err-parts-in-Some-2.result (tie_fault fault) c.from_residual-in_err-parts-in-Some-2.ensures.1
    (tie_refused Refused c.args.by_place a (circuit_in parts) (symbols_in parts) fault tt
    (λ why. (first, second, c.in-Some.ensures.parted, (a, c.in_ok-automaton-in-Some.ensures.found, (circuit_in parts, symbols_in parts, c.in_ok-parts-in-Some.ensures.found, why))))
    c.in_err-parts-in-Some-2.ensures.refused)

pub returns-in_err-netlist-in-Some-clause-refused : goal.returns-in_err-netlist-in-Some-clause-refused
returns-in_err-netlist-in-Some-clause-refused g c =
    let Parts = parting_of c.args.texts in
    let Refused = Fails (RefusesVerify (g.F.Solver.finds c.args.solver.now) Parts c.args.by_place) in
    let a = c.in_ok-automaton-in-Some.automaton in
    let parts = c.in_ok-parts-in-Some.parts in
    let tied = c.in_ok-parts-in-Some-2.parts in
    let fault = c.in_err-netlist-in-Some.field-0.0 in
    let paired : ArePaired Parts c.args.by_place a (circuit_in parts) (circuit_in tied) = record {
      first = c.in-Some.first.now;
      second = c.in-Some.second.now;
      parted = c.in-Some.ensures.parted;
      spelt = c.in_ok-automaton-in-Some.ensures.found;
      symbols = symbols_in parts;
      read = c.in_ok-parts-in-Some.ensures.found;
      tied_by = c.in_ok-parts-in-Some-2.ensures.tied;
    } in
    refused_by Refused c.from_residual-in_err-netlist-in-Some.result (netlist_fault fault) c.from_residual-in_err-netlist-in-Some.ensures.1
    (netlist_refused Refused (circuit_in tied) fault tt (λ why. (a, circuit_in parts, circuit_in tied, paired, why)) c.in_err-netlist-in-Some.ensures.fault)

pub verdict_on-requires-clause-inputs : goal.verdict_on-requires-clause-inputs
verdict_on-requires-clause-inputs g c =
    let a = c.in_ok-automaton-in-Some.automaton in
    let parts = c.in_ok-parts-in-Some.parts in
    let tied = c.in_ok-parts-in-Some-2.parts in
    ap (λ (k : Circuit). length k.inputs) c.in_ok-netlist-in-Some.ensures.lists
    ∙ tied_length c.args.by_place input (symbols_in parts) (input_names a) parts.inputs.items tied.inputs.items c.in_ok-parts-in-Some-2.ensures.tied.inputs
    ∙ inputs_named a.controllable a.propositions c.states-states.ensures.automaton.marks

pub verdict_on-requires-clause-outputs : goal.verdict_on-requires-clause-outputs
verdict_on-requires-clause-outputs g c =
    let a = c.in_ok-automaton-in-Some.automaton in
    let parts = c.in_ok-parts-in-Some.parts in
    let tied = c.in_ok-parts-in-Some-2.parts in
    ap (λ (k : Circuit). length k.outputs) c.in_ok-netlist-in-Some.ensures.lists
    ∙ tied_length c.args.by_place output (symbols_in parts) (output_names a) parts.outputs.items tied.outputs.items c.in_ok-parts-in-Some-2.ensures.tied.outputs
    ∙ outputs_named a.controllable a.propositions c.states-states.ensures.automaton.marks

pub returns-in_err-verdict-in-Some-clause-refused : goal.returns-in_err-verdict-in-Some-clause-refused
returns-in_err-verdict-in-Some-clause-refused g c =
    let Kind = g.F.Solver.finds c.args.solver.now in
    let Parts = parting_of c.args.texts in
    let a = c.in_ok-automaton-in-Some.automaton in
    let parts = c.in_ok-parts-in-Some.parts in
    let tied = c.in_ok-parts-in-Some-2.parts in
    let fault = c.in_err-verdict-in-Some.field-0.0 in
    let paired : ArePaired Parts c.args.by_place a (circuit_in parts) (circuit_in tied) = record {
      first = c.in-Some.first.now;
      second = c.in-Some.second.now;
      parted = c.in-Some.ensures.parted;
      spelt = c.in_ok-automaton-in-Some.ensures.found;
      symbols = symbols_in parts;
      read = c.in_ok-parts-in-Some.ensures.found;
      tied_by = c.in_ok-parts-in-Some-2.ensures.tied;
    } in
    refused_by (Fails (RefusesVerify Kind Parts c.args.by_place)) c.from_residual-in_err-verdict-in-Some.result fault
    c.from_residual-in_err-verdict-in-Some.ensures.1
    (unlooked Kind Parts c.args.by_place a (circuit_in parts) (circuit_in tied) paired
    (subst IsAcyclic c.in_ok-netlist-in-Some.ensures.lists c.in_ok-netlist-in-Some.ensures.acyclic) fault
    (subst (λ (k : Circuit). IsUnlooked Kind a k fault) c.in_ok-netlist-in-Some.ensures.lists c.in_err-verdict-in-Some.ensures.refused))

pub returns-clause-answer : goal.returns-clause-answer
returns-clause-answer g c =
    let Parts = parting_of c.args.texts in
    let a = c.in_ok-automaton-in-Some.automaton in
    let parts = c.in_ok-parts-in-Some.parts in
    let tied = c.in_ok-parts-in-Some-2.parts in
    let spelt = c.in_ok-automaton-in-Some.ensures.found in
    let verdict = c.in_ok-verdict-in-Some.verdict in
    let paired : ArePaired Parts c.args.by_place a (circuit_in parts) (circuit_in tied) = record {
      first = c.in-Some.first.now;
      second = c.in-Some.second.now;
      parted = c.in-Some.ensures.parted;
      spelt = spelt;
      symbols = symbols_in parts;
      read = c.in_ok-parts-in-Some.ensures.found;
      tied_by = c.in_ok-parts-in-Some-2.ensures.tied;
    } in
    let same_given : c.in_ok-given-in-Some.given.items ≡ parts.inputs.items = search rules in
    let same_tied : c.in_ok-tied-in-Some.tied.items ≡ tied.inputs.items = search rules in (
      verdict_text parts.inputs.items tied.inputs.items verdict,
      sym (ap (λ (l : List ℕ). verdict_text l c.in_ok-tied-in-Some.tied.items verdict) same_given
          ∙ ap (λ (l : List ℕ). verdict_text parts.inputs.items l verdict) same_tied),
      record {
        automaton = a;
        given = circuit_in parts;
        tied = circuit_in tied;
        paired = paired;
        acyclic = subst IsAcyclic c.in_ok-netlist-in-Some.ensures.lists c.in_ok-netlist-in-Some.ensures.acyclic;
        within = subst (λ (k : Circuit). ¬ HasTooManyStates a k) c.in_ok-netlist-in-Some.ensures.lists c.in_ok-verdict-in-Some.ensures.within;
        verdict = verdict;
        says = subst (λ (k : Circuit). Says a spelt.says.condition k verdict) c.in_ok-netlist-in-Some.ensures.lists
            (c.in_ok-verdict-in-Some.ensures.says spelt.says.condition spelt.says.shape.fits);
        printed = refl;
      },
    )
