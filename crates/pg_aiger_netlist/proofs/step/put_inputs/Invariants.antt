use Rattle.std.proofs.Common.{◌≡◌, ℕ, [], ◌∷◌, take}
use Rattle.pg_aiger.specs.Circuits.{Circuit}
use Rattle.pg_aiger_netlist.specs.Netlists.{IsAcyclic, known_by}
use Rattle.pg_aiger_netlist.specs.Mirrors.Lanes.{AreWords}
use Rattle.pg_aiger_netlist.proofs.step.put_inputs.Given as goal

abbrev pub invariant-loop-input : goal.invariant-loop-input
invariant-loop-input l =
    (circuit : Circuit) (state : ℕ) → IsAcyclic circuit → circuit.inputs ≡ l.inputs → AreWords circuit state l.first (0 ∷ []) l.fn.row
    → AreWords circuit state l.first (known_by (take l.input l.inputs)) l.row
