-- Circuits that are proposed.
use Rattle.std.specs.Prelude.{◌≡◌, ℕ, ◌≤◌, length}
use Rattle.pg_hoa_automaton.specs.Automata.{Automaton}
use Rattle.pg_hoa_automaton.specs.Formulas.{Formula}
use Rattle.pg_hoa_automaton.specs.Shapes.{FitsShape}
use Rattle.pg_aiger.specs.Circuits.{Circuit, IsNumbered}
use Rattle.pg_verify.specs.Verdicts.{IsCorrect}
use Rattle.pg_cli_command.specs.Small.{IsShaped}

-- the circuit's variables are numbered in order and within the limit, and it has as many inputs and outputs as the other
pub record IsShapedAs (other circuit : Circuit) : Type 0 where
  pub numbered : IsNumbered circuit
  pub within : circuit.greatest ≤ 1073741823
  pub inputs : length circuit.inputs ≡ length other.inputs
  pub outputs : length circuit.outputs ≡ length other.outputs

-- the automaton accepts each run of the circuit
abbrev pub IsCorrectFor : Automaton → Circuit → Type 0
IsCorrectFor a circuit = (condition : Formula) → FitsShape condition a.sets a.shape → IsCorrect a condition circuit

abbrev pub IsAcceptedBy : Automaton → Circuit → Type 0
IsAcceptedBy a circuit = IsShaped a circuit × IsCorrectFor a circuit
