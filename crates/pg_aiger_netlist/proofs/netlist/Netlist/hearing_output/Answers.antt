use Rattle.std.proofs.Common.{◌≡◌, ℕ, ◌+◌, ◌/◌, ◌<◌, ◌++◌, true, false, List, Bool, length, map, get_or, replicate, arith, refl, sym, subst, ap, ◌∙◌}
use Rattle.std.specs.Prelude.{All, IfSome, IsNone, Option, Some, None}
use Rattle.pg_aiger.specs.Circuits.{Circuit, output_at}
use Rattle.pg_aiger.specs.declared.gate.Gate.{Gate}
use Rattle.pg_aiger_netlist.specs.Netlists.{known_by, sources, variable}
use Rattle.pg_aiger_netlist.specs.Hearing.{Hears, IsMoore}
use Rattle.pg_aiger_netlist.specs.Mirrors.Hearing.{AreHeard, AreInputs}
use Rattle.pg_aiger_netlist.specs.Mirrors.Marks.{marked, variable_of, IsWithin}
use Rattle.pg_aiger_netlist.specs.Mirrors.Views.{circuit, IsOrder}
use Rattle.pg_aiger_netlist.proofs.Deaf.{sources_heard, some_hears, none_hears}
use Rattle.pg_aiger_netlist.proofs.Within.{gates_within, outputs_within}
use Rattle.pg_aiger_netlist.proofs.netlist.Netlist.hearing_output.Goals as goal

pub mark_gates-requires : goal.mark_gates-requires
mark_gates-requires c =
    let circ : Circuit = circuit c.self.inside.greatest c.self.inside.inputs.items c.self.inside.latches.items c.self.inside.outputs.items c.self.inside.gates.items in
    let n : length c.mark_inputs.new.row ≡ c.self.inside.greatest + 1 =
    (let a = c.mark_inputs.ensures.size in let b = c.as_mut_slice-row.ensures.len in let l = c.in_ok-marks.ensures.len in omega (arith, a, b, l)) in
    subst (All (IsWithin (length c.mark_inputs.new.row))) (sym c.deref-2.ensures.value)
    (gates_within circ c.self.inside.ordered.items (length c.mark_inputs.new.row) c.self.invariant.acyclic c.self.invariant.order n)

pub first_marked-requires : goal.first_marked-requires
first_marked-requires c =
    let circ : Circuit = circuit c.self.inside.greatest c.self.inside.inputs.items c.self.inside.latches.items c.self.inside.outputs.items c.self.inside.gates.items in
    let n : length c.mark_gates.new.row ≡ c.self.inside.greatest + 1 =
    (let a = c.mark_inputs.ensures.size in let b = c.as_mut_slice-row.ensures.len in let l = c.in_ok-marks.ensures.len in
    let g = c.mark_gates.ensures.size in omega (arith, a, b, l, g)) in
    subst (All (λ literal. literal / 2 < length c.mark_gates.new.row)) (sym c.deref-3.ensures.value)
    (outputs_within circ (length c.mark_gates.new.row) c.self.invariant.acyclic n)

pub returns-clause-some : goal.returns-clause-some
returns-clause-some c =
    let circ : Circuit = circuit c.self.inside.greatest c.self.inside.inputs.items c.self.inside.latches.items c.self.inside.outputs.items c.self.inside.gates.items in
    let heard : AreHeard circ (known_by (sources circ) ++ map variable_of c.self.inside.ordered.items) c.mark_gates.new.row =
    subst (λ gs. AreHeard circ (known_by (sources circ) ++ map variable_of gs) c.mark_gates.new.row) c.deref-2.ensures.value
    (c.mark_gates.ensures.heard circ c.self.invariant.acyclic (subst (IsOrder circ) (sym c.deref-2.ensures.value) c.self.invariant.order)
    (sources_heard circ c.mark_inputs.new.row c.self.invariant.acyclic
    (subst (λ ls. AreInputs ls c.mark_inputs.new.row) c.deref.ensures.value c.mark_inputs.ensures.inputs))) in
    some_hears circ c.args.self.now c.self.inside.ordered.items c.mark_gates.new.row c.mark_gates.new.row c.deref-3.result.now c.first_marked.result
    c.self.view_is c.self.invariant.acyclic c.self.invariant.order heard refl c.deref-3.ensures.value c.first_marked.ensures.some

pub returns-clause-none : goal.returns-clause-none
returns-clause-none c = λ none.
    let circ : Circuit = circuit c.self.inside.greatest c.self.inside.inputs.items c.self.inside.latches.items c.self.inside.outputs.items c.self.inside.gates.items in
    let heard : AreHeard circ (known_by (sources circ) ++ map variable_of c.self.inside.ordered.items) c.mark_gates.new.row =
    subst (λ gs. AreHeard circ (known_by (sources circ) ++ map variable_of gs) c.mark_gates.new.row) c.deref-2.ensures.value
    (c.mark_gates.ensures.heard circ c.self.invariant.acyclic (subst (IsOrder circ) (sym c.deref-2.ensures.value) c.self.invariant.order)
    (sources_heard circ c.mark_inputs.new.row c.self.invariant.acyclic
    (subst (λ ls. AreInputs ls c.mark_inputs.new.row) c.deref.ensures.value c.mark_inputs.ensures.inputs))) in
    none_hears circ c.args.self.now c.self.inside.ordered.items c.mark_gates.new.row c.mark_gates.new.row c.deref-3.result.now
    c.self.view_is c.self.invariant.acyclic c.self.invariant.order heard refl c.deref-3.ensures.value (c.first_marked.ensures.none none)
