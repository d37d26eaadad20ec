-- The answer for an automaton: the circuit if Even wins, and none if Odd does.
use Rattle.std.specs.Prelude.{◌≡◌, ℕ, List, ◌++◌, length, Option, None, Some}
use Rattle.pg_hoa_automaton.specs.Automata.{Automaton}
use Rattle.pg_synth.specs.Letters.{inputs, outputs}
use Rattle.pg_aiger.specs.Circuits.{Circuit}
use Rattle.pg_aiger.specs.CircuitLayout.{circuit_text}
use Rattle.pg_cli_command.specs.Synthesising.{realizable, unrealizable}

-- the circuit has the propositions of the automaton
abbrev pub Fits : Automaton → Option Circuit → Type 0
Fits a None = Unit {0}
Fits a (Some circuit) = (length circuit.inputs ≡ inputs a.controllable) × (length circuit.outputs ≡ outputs a.controllable)

abbrev pub outcome_text : Automaton → Option Circuit → List ℕ
outcome_text a None = unrealizable
outcome_text a (Some circuit) = realizable ++ circuit_text circuit a
