-- The variables that hear the inputs, and circuits whose outputs don't.
use Rattle.std.specs.Prelude.{◌≡◌, ℕ, map, Contains}
use Rattle.pg_aiger.specs.declared.gate.Gate.{Gate}
use Rattle.pg_aiger.specs.Circuits.{Circuit}
use Rattle.pg_aiger.specs.Runs.{Valuation, IsStepAt, number_of}
use Rattle.pg_aiger_netlist.specs.Netlists.{variable, IsUsedBy}

-- the variable is an input's, or that of a gate that uses a variable that hears
pub data Hears (circuit : Circuit) : ℕ → Type 0 where
  input : (x : ℕ) → Contains (map variable circuit.inputs) x → Hears circuit x
  gate : (g : Gate) (x : ℕ) → Contains circuit.gates g → IsUsedBy g x → Hears circuit x → Hears circuit (variable g.lhs)

-- Two steps that begin with the same latches have the same outputs, whatever the inputs, as in a Moore machine.
abbrev pub IsMoore : Circuit → Type 0
IsMoore circuit =
    (state first second : ℕ) (u v : Valuation) → IsStepAt circuit state first u → IsStepAt circuit state second v
    → number_of u circuit.outputs ≡ number_of v circuit.outputs
