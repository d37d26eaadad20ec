-- Circuits of gates and latches, as in the AIGER format.
use Rattle.std.specs.Prelude.{◌≡◌, ℕ, suc, ◌+◌, ◌*◌, ◌<◌, ◌≤◌, List, [], ◌∷◌, length, map, slice_index_or}
use Rattle.std.specs.List.{range_with_len}
use Rattle.pg_aiger.specs.declared.gate.Gate.{Gate}
pub use Rattle.pg_aiger.specs.declared.gate.Latch.{Latch}

-- The contents of the lines. A literal is twice its variable, plus one if it is negated.
pub record Circuit : Type 0 where
  -- the greatest variable
  pub greatest : ℕ
  pub inputs : List ℕ
  pub latches : List Latch
  pub outputs : List ℕ
  pub gates : List Gate

-- the literals of consecutive variables
abbrev pub literals_from : ℕ → ℕ → List ℕ
literals_from first count = map (λ variable. 2 * variable) (range_with_len first count)

-- latches of consecutive variables, with the next literal of each
abbrev pub latches_from : ℕ → List ℕ → List Latch
latches_from first [] = []
latches_from first (next ∷ rest) = record { literal = 2 * first; next = next } ∷ latches_from (suc first) rest

-- The circuit of the given number of inputs, next literals of latches, outputs and gates: its variables from 1 on are the inputs, then
-- the latches, and then the gates.
abbrev pub circuit_in_order : ℕ → List ℕ → List ℕ → List Gate → Circuit
circuit_in_order inputs nexts outputs gates = record {
  greatest = inputs + length nexts + length gates;
  inputs = literals_from 1 inputs;
  latches = latches_from (1 + inputs) nexts;
  outputs = outputs;
  gates = gates;
}

abbrev pub no_latch : Latch
no_latch = record { literal = 0; next = 0 }

abbrev pub input_at : Circuit → ℕ → ℕ
input_at circuit j = slice_index_or circuit.inputs j 0

abbrev pub latch_at : Circuit → ℕ → Latch
latch_at circuit j = slice_index_or circuit.latches j no_latch

abbrev pub output_at : Circuit → ℕ → ℕ
output_at circuit j = slice_index_or circuit.outputs j 0

-- the gates define the variables from `first` on, each by two literals of smaller variables, the greater of them first
abbrev pub AreGatesFrom : ℕ → List Gate → Type 0
AreGatesFrom first [] = Unit {0}
AreGatesFrom first (gate ∷ rest) =
    (gate.lhs ≡ 2 * first) × (gate.rhs0 < 2 * first) × (gate.rhs1 ≤ gate.rhs0) × AreGatesFrom (suc first) rest

-- The order that the binary form of the format asks for: the variables from 1 on are the inputs, then the latches, then the gates, and
-- there are no others.
pub record IsNumbered (circuit : Circuit) : Type 0 where
  pub greatest : circuit.greatest ≡ length circuit.inputs + length circuit.latches + length circuit.gates
  pub inputs : (j : ℕ) → j < length circuit.inputs → input_at circuit j ≡ 2 * (j + 1)
  pub latches : (j : ℕ) → j < length circuit.latches → (latch_at circuit j).literal ≡ 2 * (1 + length circuit.inputs + j)
  pub gates : AreGatesFrom (1 + length circuit.inputs + length circuit.latches) circuit.gates
  pub nexts : (j : ℕ) → j < length circuit.latches → (latch_at circuit j).next < 2 * (circuit.greatest + 1)
  pub outputs : (j : ℕ) → j < length circuit.outputs → output_at circuit j < 2 * (circuit.greatest + 1)
