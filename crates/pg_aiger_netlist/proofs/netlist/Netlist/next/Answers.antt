use Rattle.std.proofs.Common.{◌≡◌, ℕ, ◌+◌, ◌/◌, ◌<◌, List, length, arith, refl, sym, subst, ap, ◌∙◌, get_or}
use Rattle.std.specs.Prelude.{map, All}
use Rattle.pg_aiger.specs.declared.gate.Latch.{Latch}
use Rattle.pg_aiger.specs.Circuits.{Circuit}
use Rattle.pg_aiger.specs.Runs.{Valuation, value, IsStepAt, number_of, nexts}
use Rattle.pg_aiger_netlist.specs.Steps.{spelt, AreValues}
use Rattle.pg_aiger_netlist.specs.Mirrors.Lanes.{lane_value}
use Rattle.pg_aiger_netlist.specs.Mirrors.Views.{circuit}
use Rattle.pg_aiger_netlist.proofs.Within.{nexts_within, nexts_right}
use Rattle.pg_aiger_netlist.proofs.netlist.Netlist.next.Goals as goal

pub take_latches-requires-clause-within : goal.take_latches-requires-clause-within
take_latches-requires-clause-within c =
    let circ : Circuit = circuit c.self.inside.greatest c.self.inside.inputs.items c.self.inside.latches.items c.self.inside.outputs.items c.self.inside.gates.items in
    let room : length c.args.row.now ≡ c.self.inside.greatest + 1 = c.requires.room ∙ ap (λ (k : Circuit). k.greatest + 1) (sym c.self.view_is) in
    subst (All (λ latch. latch.next / 2 < length c.args.row.now)) (sym c.deref.ensures.value)
    (nexts_within circ (length c.args.row.now) c.self.invariant.acyclic room)

pub returns : goal.returns
returns c =
    let circ : Circuit = circuit c.self.inside.greatest c.self.inside.inputs.items c.self.inside.latches.items c.self.inside.outputs.items c.self.inside.gates.items in
    subst (λ (k : Circuit). (state letter : ℕ) (v : Valuation) → AreValues k state letter c.args.lane c.args.row.now → IsStepAt k state letter v
    → spelt c.take_latches.new.latches ≡ number_of v (nexts k)) c.self.view_is
    (λ state letter v are is.
    subst (λ (ls : List Latch). ((j : ℕ) → j < length ls → lane_value c.args.row.now c.args.lane (get_or (map Latch.next ls) j 0)
    ≡ value v (get_or (map Latch.next ls) j 0)) → spelt c.take_latches.new.latches ≡ number_of v (map Latch.next ls)) c.deref.ensures.value
    (c.take_latches.ensures v)
    (nexts_right circ state letter c.args.lane c.args.row.now v c.self.invariant.acyclic are is))
