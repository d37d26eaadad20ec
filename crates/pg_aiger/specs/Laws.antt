-- The laws, as statements.
use Rattle.std.specs.Prelude.{◌≡◌, ℕ, ◌^◌, ◌<◌, ◌≤◌, Bool, List, length}
use Rattle.pg_hoa_automaton.specs.Automata.{Automaton, IsAutomaton}
use Rattle.pg_synth.specs.Letters.{inputs, outputs}
use Rattle.pg_synth.specs.Machines.{Machine, IsMachine, machine_word}
use Rattle.pg_aiger.specs.Circuits.{Circuit, IsNumbered}
use Rattle.pg_aiger.specs.Runs.{Valuation, HasOneRun, IsWordOf, IsStepAt}
use Rattle.pg_aiger.specs.Machines.{IsTooLarge, IsCircuitOf}
use Rattle.pg_aiger.specs.CircuitText.{Symbol, IsCircuitText}
use Rattle.pg_aiger.specs.CircuitLayout.{symbols_of, circuit_text}

-- a circuit whose variables are in order has exactly one run for each endless input word
abbrev pub OneRun : Type 0
OneRun = (circuit : Circuit) (input : ℕ → ℕ) → IsNumbered circuit → HasOneRun circuit input

-- in a circuit whose variables are in order, each step has exactly one valuation
pub record HasOneStep (circuit : Circuit) (state letter : ℕ) : Type 0 where
  pub some : (v : Valuation) × IsStepAt circuit state letter v
  pub one : (first second : Valuation) → IsStepAt circuit state letter first → IsStepAt circuit state letter second
      → (x : ℕ) → x ≤ circuit.greatest → first x ≡ second x

abbrev pub OneStep : Type 0
OneStep = (circuit : Circuit) (state letter : ℕ) → IsNumbered circuit → HasOneStep circuit state letter

-- The circuit of a machine has exactly one run for each endless word of input letters, and the word of that run is the machine's and no
-- other.
pub record FollowsMachine (controllable : List Bool) (machine : Machine) (circuit : Circuit) (input : ℕ → ℕ) : Type 0 where
  pub one_run : HasOneRun circuit input
  pub word : IsWordOf circuit controllable input (machine_word controllable machine input)
  pub one_word : (word : ℕ → ℕ) → IsWordOf circuit controllable input word → (t : ℕ) → word t ≡ machine_word controllable machine input t

abbrev pub CircuitFollows : Type 0
CircuitFollows =
    (controllable : List Bool) (machine : Machine) (circuit : Circuit) (input : ℕ → ℕ)
    → machine.inputs ≡ inputs controllable → IsCircuitOf machine circuit
    → ((t : ℕ) → input t < 2 ^ inputs controllable) → FollowsMachine controllable machine circuit input

-- a machine has one circuit
abbrev pub OneCircuit : Type 0
OneCircuit =
    (machine : Machine) (first second : Circuit) → IsCircuitOf machine first → IsCircuitOf machine second → first ≡ second

-- The text of a circuit within the limit spells it with the names of the automaton's propositions, and nothing else.
abbrev pub CircuitReadsBack : Type 0
CircuitReadsBack =
    (circuit : Circuit) (a : Automaton) → IsNumbered circuit → circuit.greatest ≤ 1073741823 → IsAutomaton a
    → length circuit.inputs ≡ inputs a.controllable → length circuit.outputs ≡ outputs a.controllable
    → IsCircuitText (circuit_text circuit a) circuit (symbols_of a)
    × ((other : Circuit) (symbols : List Symbol) → IsCircuitText (circuit_text circuit a) other symbols
    → (other ≡ circuit) × (symbols ≡ symbols_of a))

-- no machine has a circuit over the limit
abbrev pub NoneTooLarge : Type 0
NoneTooLarge = (machine : Machine) → IsMachine machine → ¬ IsTooLarge machine
