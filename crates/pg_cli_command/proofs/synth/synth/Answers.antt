use Rattle.pg_cli_command.proofs.Common.{rules, Err, ap, inl, refl, subst, ◌++◌, IsMealyOf, circuit_text, hoa_fault, synth_fault, aiger_fault}
use Rattle.pg_cli_command.proofs.Common.{RefusesSynth, realizable, Fails}
use Rattle.pg_cli_command.proofs.Refusing.{refused_by}
use Rattle.pg_cli_command.proofs.Made.{text_refused, game_refused}
use Rattle.pg_cli_command.proofs.Synthesised.{refuses_circuit, IsKnown, fits_by, realized_by, large_by}
use Rattle.pg_cli_command.proofs.synth.synth.Goals as goal

pub returns-in_err-automaton-clause-refused : goal.returns-in_err-automaton-clause-refused
returns-in_err-automaton-clause-refused g c =
    let Refused = Fails (RefusesSynth (g.F.Solver.finds c.args.solver.now) c.args.text.items) in
    let fault = c.in_err-automaton.field-0.0 in
    refused_by Refused c.from_residual.result (hoa_fault fault) c.from_residual.ensures.1
    (text_refused Refused c.args.text.items fault tt (λ said no. no) (rw (← c.deref.ensures.value) c.in_err-automaton.ensures.refused))

pub returns-in_err-made-clause-refused : goal.returns-in_err-made-clause-refused
returns-in_err-made-clause-refused g c =
    let Refused = Fails (RefusesSynth (g.F.Solver.finds c.args.solver.now) c.args.text.items) in
    let fault = c.in_err-made.field-0.0 in
    refused_by Refused c.from_residual-in_err-made.result (synth_fault fault) c.from_residual-in_err-made.ensures.1
    (game_refused Refused c.args.text.items c.in_ok-automaton.automaton (rw (← c.deref.ensures.value) c.in_ok-automaton.ensures.found) fault tt
    (λ over. over) c.in_err-made.ensures.fault)

pub returns-in_err-circuit-clause-refused : goal.returns-in_err-circuit-clause-refused
returns-in_err-circuit-clause-refused g c =
    let Kind = g.F.Solver.finds c.args.solver.now in
    let bytes = c.args.text.items in
    let fault = c.in_err-circuit.field-0.0 in
    let a = c.in_ok-automaton.automaton in
    let made = c.in_ok-made.made in
    let solution = c.in_ok-solution.solution in
    let machine = c.in-Some.machine in
    let mealy = subst (IsMealyOf a made.game made.initial solution) c.in-Some.is c.in_ok-machine.ensures.machine in
    let known : IsKnown Kind bytes a made.game made.initial solution = search rules in
    refused_by (Fails (RefusesSynth Kind bytes)) c.from_residual-in_err-circuit.result (aiger_fault fault) c.from_residual-in_err-circuit.ensures.1
    (refuses_circuit Kind bytes fault c.in_err-circuit.ensures.refused
    (λ e. large_by Kind bytes a made.game made.initial solution known machine mealy (c.in_err-circuit.ensures.too_large.0 (ap Err e))))

pub returns-clause-whole : goal.returns-clause-whole
returns-clause-whole g c =
    let a = c.in_ok-automaton.automaton in
    let made = c.in_ok-made.made in
    let solution = c.in_ok-solution.solution in
    let machine = c.in-Some.machine in
    fits_by a made.game made.initial solution machine c.in_ok-circuit.circuit
    (subst (IsMealyOf a made.game made.initial solution) c.in-Some.is c.in_ok-machine.ensures.machine) c.in_ok-circuit.ensures.circuit

pub returns-clause-answer : goal.returns-clause-answer
returns-clause-answer g c =
    let Kind = g.F.Solver.finds c.args.solver.now in
    let bytes = c.args.text.items in
    let a = c.in_ok-automaton.automaton in
    let made = c.in_ok-made.made in
    let solution = c.in_ok-solution.solution in
    let machine = c.in-Some.machine in
    let circuit = c.in_ok-circuit.circuit in
    let mealy = subst (IsMealyOf a made.game made.initial solution) c.in-Some.is c.in_ok-machine.ensures.machine in
    let known : IsKnown Kind bytes a made.game made.initial solution = search rules in (
      realizable ++ circuit_text circuit a,
      refl,
      inl (realized_by Kind bytes a made.game made.initial solution known machine mealy circuit
          (λ over. absurd (cc (c.in_ok-circuit.was, c.circuit_of.ensures.too_large.1 over))) c.in_ok-circuit.ensures.circuit),
    )
