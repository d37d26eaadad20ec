-- The circuits of machines.
use Rattle.std.specs.Prelude.{◌≡◌, ℕ, ◌+◌, ◌*◌, ◌^◌, ◌<◌, ◌≤◌, length}
use Rattle.pg_synth.specs.Machines.{Machine, machine_state, machine_output}
use Rattle.pg_aiger.specs.Circuits.{Circuit, IsNumbered}
use Rattle.pg_aiger.specs.Construction.{made_circuit}
use Rattle.pg_aiger.specs.Runs.{Valuation, current, number_of, IsRun, HasOneRun}

-- the least number of latches that can tell the given number of states apart
pub record IsWidth (states latches : ℕ) : Type 0 where
  pub enough : states ≤ 2 ^ latches
  pub least : (fewer : ℕ) → fewer < latches → 2 ^ fewer < states

-- An upper bound on the number of variables: the inputs and latches, and for each state and input letter the gates of one conjunction of
-- all latches and inputs, and one gate for each bit of the next state and of the output letter.
abbrev pub count_ahead : Machine → ℕ → ℕ
count_ahead machine latches =
    machine.inputs + latches + machine.states * 2 ^ machine.inputs * (machine.inputs + 2 * latches + machine.outputs)

-- the count is over its limit
abbrev pub IsTooLarge : Machine → Type 0
IsTooLarge machine = (latches : ℕ) × IsWidth machine.states latches × (1073741823 < count_ahead machine latches)

-- As long as the run lasts, its inputs spell the input letters, its latches the machine's states, and its outputs the machine's output
-- letters.
pub record RunsAs (machine : Machine) (circuit : Circuit) (input : ℕ → ℕ) (count : ℕ) (run : ℕ → Valuation) : Type 0 where
  pub letters : (t : ℕ) → t < count → number_of (run t) circuit.inputs ≡ input t
  pub states : (t : ℕ) → t < count → number_of (run t) (current circuit) ≡ machine_state machine input t
  pub outputs : (t : ℕ) → t < count → number_of (run t) circuit.outputs ≡ machine_output machine input t

-- The circuit is the one made from the machine, with as few latches as possible. It is within the limit, and has as many inputs and
-- outputs as the machine. For every list of input letters it has exactly one run, which follows the machine.
pub record IsCircuitOf (machine : Machine) (circuit : Circuit) : Type 0 where
  pub numbered : IsNumbered circuit
  pub within : circuit.greatest ≤ 1073741823
  pub inputs : length circuit.inputs ≡ machine.inputs
  pub outputs : length circuit.outputs ≡ machine.outputs
  pub latches : IsWidth machine.states (length circuit.latches)
  pub made : circuit ≡ made_circuit machine (length circuit.latches)
  pub one_run : (input : ℕ → ℕ) → HasOneRun circuit input
  pub runs_as : (input : ℕ → ℕ) (count : ℕ) (run : ℕ → Valuation) → ((t : ℕ) → t < count → input t < 2 ^ machine.inputs)
      → IsRun circuit input count run → RunsAs machine circuit input count run
