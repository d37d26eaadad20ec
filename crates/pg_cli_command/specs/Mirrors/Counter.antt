-- What `synth --counter` works out.
use Rattle.std.specs.Prelude.{◌≡◌, ℕ, List, ◌++◌, Bool, true, false}
use Rattle.pg_hoa_automaton.specs.Automata.{Automaton}
use Rattle.pg_hoa_automaton.specs.Formulas.{Formula}
use Rattle.pg_hoa_automaton.specs.Shapes.{FitsShape}
use Rattle.pg_aiger.specs.Circuits.{Circuit}
use Rattle.pg_aiger.specs.CircuitLayout.{circuit_text}
use Rattle.pg_aiger_netlist.specs.Hearing.{IsMoore}
use Rattle.pg_verify_environment.specs.Environments.{IsRefutation}
use Rattle.pg_cli_command.specs.Synthesising.{realizable, unrealizable}
use Rattle.pg_cli_command.specs.Small.{IsShaped}

-- the outputs don't depend on inputs of the same step, and the automaton accepts no run of the circuit
abbrev pub IsRefutedBy : Automaton → Circuit → Type 0
IsRefutedBy a circuit = IsMoore circuit × ((condition : Formula) → FitsShape condition a.sets a.shape → IsRefutation a condition circuit)

-- the circuit has the propositions of the automaton's counterpart, and the automaton accepts no run of it
abbrev pub IsCounterTo : Automaton → Automaton → Circuit → Type 0
IsCounterTo a twin circuit = IsShaped twin circuit × IsRefutedBy a circuit

-- whether there is a controller, and a circuit with the propositions of an automaton
abbrev pub countered_text : Bool → Automaton → Circuit → List ℕ
countered_text true a circuit = realizable ++ circuit_text circuit a
countered_text false a circuit = unrealizable ++ circuit_text circuit a
