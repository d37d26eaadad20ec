use Rattle.std.proofs.Common.{◌≡◌, ℕ, ◌++◌, take}
use Rattle.std.specs.Prelude.{map}
use Rattle.pg_aiger.specs.declared.gate.Latch.{Latch}
use Rattle.pg_aiger.specs.Circuits.{Circuit}
use Rattle.pg_aiger_netlist.specs.Netlists.{IsAcyclic, known_by}
use Rattle.pg_aiger_netlist.specs.Steps.{spelt}
use Rattle.pg_aiger_netlist.specs.Mirrors.Lanes.{AreWords}
use Rattle.pg_aiger_netlist.proofs.step.put_latches.Given as goal

abbrev pub invariant-loop-place : goal.invariant-loop-place
invariant-loop-place l =
    (circuit : Circuit) (first : ℕ) → IsAcyclic circuit → circuit.latches ≡ l.lines
    → AreWords circuit (spelt l.latches) first (known_by circuit.inputs) l.fn.row
    → AreWords circuit (spelt l.latches) first (known_by (circuit.inputs ++ map Latch.literal (take l.place l.lines))) l.row
