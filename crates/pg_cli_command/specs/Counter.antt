-- What `synth --counter` prints, and what that says about endless words.
use Rattle.std.specs.Prelude.{◌≡◌, ◌⊎◌, ℕ, ◌<◌, List, ◌++◌}
use Rattle.pg_hoa_automaton.specs.Automata.{Automaton, IsAutomaton}
use Rattle.pg_hoa.specs.AutomatonText.{Spelt}
use Rattle.pg_synth.specs.AutomatonGames.{output_letters}
use Rattle.pg_aiger.specs.Circuits.{Circuit}
use Rattle.pg_aiger.specs.CircuitText.{Symbol, IsCircuitText}
use Rattle.pg_aiger.specs.CircuitLayout.{circuit_text}
use Rattle.pg_aiger_netlist.specs.Hearing.{IsMoore}
use Rattle.pg_verify_environment.specs.Counterparts.{IsCounterpart}
use Rattle.pg_verify_environment.specs.Environments.{RefutesOn, IsRefutation}
use Rattle.pg_cli_command.specs.Measuring.{MapKind}
use Rattle.pg_cli_command.specs.Synthesising.{unrealizable, IsRealized, IsUnrealized, RefusesSynth}
use Rattle.pg_cli_command.specs.Small.{IsShaped}
use Rattle.pg_cli_command.specs.declared.fault.CliFault.{CliFault}
use Rattle.pg_cli_command.specs.declared.fault.CliFault.TheVariants.{NoCounter}

-- The input spells an automaton. The output says that there is no controller, and then has the text of a circuit, whose inputs are the
-- propositions that the controller sets and whose outputs are the others. The circuit's outputs don't depend on inputs of the same step,
-- and the automaton accepts none of its runs.
pub record IsCounter (input output : List ℕ) : Type 0 where
  pub automaton : Automaton
  pub spelt : Spelt input automaton
  pub twin : Automaton
  pub counterpart : IsCounterpart automaton twin
  pub circuit : Circuit
  pub shaped : IsShaped twin circuit
  pub moore : IsMoore circuit
  pub refutes : IsRefutation automaton spelt.says.condition circuit
  pub printed : output ≡ unrealizable ++ circuit_text circuit twin

-- what `synth` prints if there is a controller; otherwise the output says that there is none, and has such a circuit
abbrev pub IsSynthesisedCounter : MapKind → List ℕ → List ℕ → Type 0
IsSynthesisedCounter Kind input output = IsRealized Kind input output ⊎ (IsUnrealized Kind input unrealizable × IsCounter input output)

-- why there is no such output: for a reason of `synth`; or there is no controller, and no circuit was found
abbrev pub RefusesCounter : MapKind → List ℕ → CliFault → Type 0
RefusesCounter Kind input NoCounter = IsUnrealized Kind input unrealizable
RefusesCounter Kind input fault = RefusesSynth Kind input fault

-- The bytes spell exactly one circuit. For each endless list of the controller's letters it has exactly one run, and the automaton that the
-- input spells doesn't accept the word of that run.
pub record RefutesRuns (input bytes : List ℕ) : Type 0 where
  pub automaton : Automaton
  pub spelt : Spelt input automaton
  pub circuit : Circuit
  pub symbols : List Symbol
  pub text : IsCircuitText bytes circuit symbols
  pub one_circuit : (other : Circuit) (names : List Symbol) → IsCircuitText bytes other names → other ≡ circuit
  pub moore : IsMoore circuit
  pub refutes : (answers : ℕ → ℕ) → ((t : ℕ) → answers t < output_letters automaton)
      → RefutesOn automaton spelt.says.condition circuit answers

-- this holds for the bytes after the first line of each such answer
abbrev pub CounterRefutes : Type 0
CounterRefutes = (input output : List ℕ) → IsCounter input output
    → (bytes : List ℕ) × (output ≡ unrealizable ++ bytes) × RefutesRuns input bytes
