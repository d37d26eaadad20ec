-- What `synth --small` prints, and what that says about endless words.
use Rattle.std.specs.Prelude.{◌≡◌, ◌⊎◌, ℕ, ◌≤◌, List, ◌++◌, length}
use Rattle.pg_hoa_automaton.specs.Automata.{Automaton, IsAutomaton}
use Rattle.pg_hoa.specs.AutomatonText.{Spelt}
use Rattle.pg_synth.specs.Letters.{inputs, outputs}
use Rattle.pg_aiger.specs.Circuits.{Circuit, IsNumbered}
use Rattle.pg_aiger.specs.CircuitLayout.{circuit_text}
use Rattle.pg_verify.specs.Verdicts.{IsCorrect}
use Rattle.pg_cli_command.specs.Measuring.{MapKind, IsClosedMapOf}
use Rattle.pg_cli_command.specs.Synthesising.{realizable, IsSynthesised, IsRealized}
use Rattle.pg_cli_command.specs.Controllers.{AcceptsRun}

-- the circuit's variables are numbered in order and within the limit, and the circuit has the propositions of the automaton
pub record IsShaped (a : Automaton) (circuit : Circuit) : Type 0 where
  pub numbered : IsNumbered circuit
  pub within : circuit.greatest ≤ 1073741823
  pub inputs : length circuit.inputs ≡ inputs a.controllable
  pub outputs : length circuit.outputs ≡ outputs a.controllable

-- The input spells an automaton that accepts each run of a circuit. The output says that there is a controller, and then has the text of
-- the circuit.
pub record IsSmall (input output : List ℕ) : Type 0 where
  pub automaton : Automaton
  pub spelt : Spelt input automaton
  pub is_automaton : IsAutomaton automaton
  pub circuit : Circuit
  pub shaped : IsShaped automaton circuit
  pub correct : IsCorrect automaton spelt.says.condition circuit
  pub printed : output ≡ realizable ++ circuit_text circuit automaton

-- such an output, or what `synth` prints
abbrev pub IsSynthesisedSmall : MapKind → List ℕ → List ℕ → Type 0
IsSynthesisedSmall Kind input output = IsSmall input output ⊎ IsSynthesised Kind input output

-- Whichever circuit comes after the first line, it has exactly one run for the endless word of input letters, and the automaton accepts the
-- word of that run.
abbrev pub SmallAccepted : (ℕ → ℕ) → Type 0
SmallAccepted letters = (input output : List ℕ) → IsSmall input output ⊎ IsRealized IsClosedMapOf input output
    → (bytes : List ℕ) × (output ≡ realizable ++ bytes) × AcceptsRun input bytes letters
