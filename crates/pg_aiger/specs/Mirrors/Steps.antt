-- One step, variable by variable.
use Rattle.std.specs.Prelude.{◌≡◌, ℕ, ◌+◌, ◌<◌, Bool, false, List, length, slice_index_or}
use Rattle.pg_aiger.specs.declared.gate.Gate.{Gate}
use Rattle.pg_aiger.specs.Runs.{Valuation, bit, Satisfies}

-- these are the values of the first variables
abbrev pub Agrees : List Bool → Valuation → Type 0
Agrees values v = (x : ℕ) → x < length values → slice_index_or values x false ≡ v x

-- the variables from 1 on are the bits of an input letter, then the bits of a state, and the gates hold
pub record IsValued (inputs latches : ℕ) (gates : List Gate) (state letter : ℕ) (v : Valuation) : Type 0 where
  pub constant : v 0 ≡ false
  pub inputs_have : (j : ℕ) → j < inputs → v (1 + j) ≡ bit letter j
  pub latches_have : (j : ℕ) → j < latches → v (1 + inputs + j) ≡ bit state j
  pub gates_hold : Satisfies v gates
