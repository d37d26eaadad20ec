-- A circuit as it lies in memory.
use Rattle.std.specs.Prelude.{ℕ, ◌+◌, ◌^◌, ◌<◌, ◌≤◌, List, length}
use Rattle.pg_aiger.specs.declared.gate.Gate.{Gate}
pub use Rattle.pg_aiger.specs.Circuits.{literals_from, latches_from}
use Rattle.pg_aiger.specs.Circuits.{Circuit, IsNumbered, circuit_in_order}

-- the circuit of these parts
abbrev pub viewed : ℕ → List ℕ → List ℕ → List Gate → Circuit
viewed inputs nexts outputs gates = circuit_in_order inputs nexts outputs gates

-- there are few inputs, latches and outputs, and the literals fit
pub record IsKept (inputs : ℕ) (nexts outputs : List ℕ) (gates : List Gate) : Type 0 where
  pub few_inputs : inputs ≤ 16
  pub few_latches : length nexts ≤ 16
  pub few_outputs : length outputs ≤ 16
  pub within : inputs + length nexts + length gates < 2 ^ 30
  pub numbered : IsNumbered (viewed inputs nexts outputs gates)
