use Rattle.std.proofs.Common.{rules, ◌≡◌, ℕ, ◌+◌, ◌/◌, ◌<◌, ◌++◌, ◌∷◌, [], length, set, arith, refl, sym, subst, ap, ◌∙◌}
use Rattle.std.specs.Prelude.{map, All}
use Rattle.std.proofs.lemmas.List.{length-set}
use Rattle.pg_aiger.specs.Circuits.{Circuit}
use Rattle.pg_aiger_netlist.specs.Netlists.{IsAcyclic, known_by, sources}
use Rattle.pg_aiger_netlist.specs.Steps.{spelt, AreValues}
use Rattle.pg_aiger_netlist.specs.Mirrors.Lanes.{AreWords}
use Rattle.pg_aiger_netlist.specs.Mirrors.Marks.{variable_of, IsWithin}
use Rattle.pg_aiger_netlist.specs.Mirrors.Views.{circuit, IsOrder}
use Rattle.pg_aiger_netlist.proofs.Words.{words_first}
use Rattle.pg_aiger_netlist.proofs.Within.{latches_within, gates_within, step_done}
use Rattle.pg_aiger_netlist.proofs.netlist.Netlist.step.Goals as goal

pub put_latches-requires-clause-within : goal.put_latches-requires-clause-within
put_latches-requires-clause-within c =
    let circ : Circuit = circuit c.self.inside.greatest c.self.inside.inputs.items c.self.inside.latches.items c.self.inside.outputs.items c.self.inside.gates.items in
    let room : length c.args.row.now ≡ c.self.inside.greatest + 1 = c.requires.room ∙ ap (λ (k : Circuit). k.greatest + 1) (sym c.self.view_is) in
    let same = length-set c.args.row.now 0 0 in
    let n : length c.put_inputs.new.row ≡ c.self.inside.greatest + 1 = (let a = c.put_inputs.auto.row in omega (arith, room, same, a)) in
    subst (All (λ latch. latch.literal / 2 < length c.put_inputs.new.row)) (sym c.deref-2.ensures.value)
    (latches_within circ (length c.put_inputs.new.row) c.self.invariant.acyclic n)

pub put_gates-requires : goal.put_gates-requires
put_gates-requires c =
    let circ : Circuit = circuit c.self.inside.greatest c.self.inside.inputs.items c.self.inside.latches.items c.self.inside.outputs.items c.self.inside.gates.items in
    let room : length c.args.row.now ≡ c.self.inside.greatest + 1 = c.requires.room ∙ ap (λ (k : Circuit). k.greatest + 1) (sym c.self.view_is) in
    let same = length-set c.args.row.now 0 0 in
    let n : length c.put_latches.new.row ≡ c.self.inside.greatest + 1 =
    (let a = c.put_inputs.auto.row in let b = c.put_latches.auto.row in omega (arith, room, same, a, b)) in
    subst (All (IsWithin (length c.put_latches.new.row))) (sym c.deref-3.ensures.value)
    (gates_within circ c.self.inside.ordered.items (length c.put_latches.new.row) c.self.invariant.acyclic c.self.invariant.order n)

pub returns : goal.returns
returns c =
    let circ : Circuit = circuit c.self.inside.greatest c.self.inside.inputs.items c.self.inside.latches.items c.self.inside.outputs.items c.self.inside.gates.items in
    let room : length c.args.row.now ≡ c.self.inside.greatest + 1 = c.requires.room ∙ ap (λ (k : Circuit). k.greatest + 1) (sym c.self.view_is) in
    let state : ℕ = spelt c.args.latches.now in
    let inputs : AreWords circ state c.args.first (known_by c.self.inside.inputs.items) c.put_inputs.new.row =
    subst (λ ls. AreWords circ state c.args.first (known_by ls) c.put_inputs.new.row) c.deref.ensures.value
    (c.put_inputs.ensures circ state c.self.invariant.acyclic (sym c.deref.ensures.value)
    (words_first circ state c.args.first c.args.row.now (omega (arith, room)))) in
    let latches = c.put_latches.ensures circ c.args.first c.self.invariant.acyclic (sym c.deref-2.ensures.value) inputs in
    let all : AreWords circ state c.args.first (known_by (sources circ) ++ map variable_of c.self.inside.ordered.items) c.put_gates.new.row =
    subst (λ gs. AreWords circ state c.args.first (known_by (sources circ) ++ map variable_of gs) c.put_gates.new.row) c.deref-3.ensures.value
    (c.put_gates.ensures circ state c.args.first c.self.invariant.acyclic
    (subst (IsOrder circ) (sym c.deref-3.ensures.value) c.self.invariant.order) latches) in
    record {
      values = subst (λ (k : Circuit). (lane : ℕ) → lane < 64 → AreValues k state (c.args.first + lane) lane c.put_gates.new.row) c.self.view_is
          (step_done circ c.self.inside.ordered.items state c.args.first c.put_gates.new.row c.self.invariant.order all);
    }
