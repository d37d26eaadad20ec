-- A netlist as it is stored in memory.
use Rattle.std.specs.Prelude.{ℕ, List, Contains, ◌↔◌}
use Rattle.pg_aiger.specs.declared.gate.Gate.{Gate}
use Rattle.pg_aiger.specs.Circuits.{Circuit}
use Rattle.pg_aiger.specs.declared.gate.Latch.{Latch}
use Rattle.pg_aiger_netlist.specs.Netlists.{IsAcyclic, AreOrdered, known_by, sources}

abbrev pub circuit : ℕ → List ℕ → List Latch → List ℕ → List Gate → Circuit
circuit greatest inputs latches outputs gates =
    record { greatest = greatest; inputs = inputs; latches = latches; outputs = outputs; gates = gates }

-- these are the gates in an order in which each uses only variables that are known before it
pub record IsOrder (circuit : Circuit) (ordered : List Gate) : Type 0 where
  pub same : (gate : Gate) → Contains ordered gate ↔ Contains circuit.gates gate
  pub in_order : AreOrdered (known_by (sources circuit)) ordered

pub record IsKept (circuit : Circuit) (ordered : List Gate) : Type 0 where
  pub acyclic : IsAcyclic circuit
  pub order : IsOrder circuit ordered
