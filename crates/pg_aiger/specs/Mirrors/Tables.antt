-- The gates of a table that has a place for each state and input letter.
use Rattle.std.specs.Prelude.{◌≡◌, ℕ, zero, suc, ◌+◌, ◌*◌, ◌/◌, ◌%◌, ◌^◌, ◌<◌, ◌==◌, Bool, false, ◌&&◌, ◌||◌, List, length, map, slice_index}
use Rattle.std.specs.List.{range_with_len}
use Rattle.pg_synth.specs.Machines.{Machine, reply}
use Rattle.pg_synth.specs.declared.mealy.Reply.{Reply}
use Rattle.pg_aiger.specs.declared.gate.Gate.{Gate}
use Rattle.pg_aiger.specs.Circuits.{Circuit, IsNumbered, latch_at, output_at}
use Rattle.pg_aiger.specs.Runs.{Valuation, value, bit, Satisfies}
use Rattle.pg_aiger.specs.Construction.{minterm_literals}
use Rattle.pg_aiger.specs.Mirrors.Drafts.{Drafted, IsDraft, IsLiteral, Extends, Means, number_at}

-- the reply at a place
abbrev pub reply_of : Machine → ℕ → Reply
reply_of machine place = reply machine (place / 2 ^ machine.inputs) (place % 2 ^ machine.inputs)

-- the output letter and the next state at each of the first places
abbrev pub outputs_below : Machine → ℕ → List ℕ
outputs_below machine places = map (λ place. (reply_of machine place).output) (range_with_len 0 places)

abbrev pub nexts_below : Machine → ℕ → List ℕ
nexts_below machine places = map (λ place. (reply_of machine place).next) (range_with_len 0 places)

-- the valuation has this state and input letter: k inputs from variable 1 on, then b latches
abbrev pub IsAt : ℕ → ℕ → Valuation → ℕ → ℕ → Type 0
IsAt k b v state letter = (number_at v (1 + k) b ≡ state) × (number_at v 1 k ≡ letter)

-- in every valuation of a state and a letter, the latches' next literals spell the next state, and the outputs spell the output letter
pub record IsBuiltFor (machine : Machine) (circuit : Circuit) : Type 0 where
  pub numbered : IsNumbered circuit
  pub inputs : length circuit.inputs ≡ machine.inputs
  pub outputs : length circuit.outputs ≡ machine.outputs
  pub next_bits : (v : Valuation) (s i j : ℕ) → v 0 ≡ false → Satisfies v circuit.gates → s < machine.states
      → i < 2 ^ machine.inputs → IsAt machine.inputs (length circuit.latches) v s i → j < length circuit.latches
      → value v (latch_at circuit j).next ≡ bit (reply machine s i).next j
  pub output_bits : (v : Valuation) (s i j : ℕ) → v 0 ≡ false → Satisfies v circuit.gates → s < machine.states
      → i < 2 ^ machine.inputs → IsAt machine.inputs (length circuit.latches) v s i → j < machine.outputs
      → value v (output_at circuit j) ≡ bit (reply machine s i).output j

-- the minterm of a place
abbrev pub is_minterm : ℕ → ℕ → ℕ → Valuation → Bool
is_minterm k b place v = (number_at v (1 + k) b == place / 2 ^ k) && (number_at v 1 k == place % 2 ^ k)

-- the literals whose conjunction is the minterm of a place
abbrev pub minterm_at : ℕ → ℕ → ℕ → List ℕ
minterm_at inputs latches place = minterm_literals inputs latches (place / 2 ^ inputs) (place % 2 ^ inputs)

abbrev pub minterms_below : ℕ → ℕ → ℕ → List (List ℕ)
minterms_below inputs latches places = map (minterm_at inputs latches) (range_with_len 0 places)

-- the literals have these meanings, in their order
pub record MeanEach (draft : Drafted) (meanings : ℕ → Valuation → Bool) (literals : List ℕ) : Type 0 where
  pub literal : (place : ℕ) → place < length literals → IsLiteral draft (slice_index literals place)
  pub meaning : (place : ℕ) → place < length literals → Means draft (slice_index literals place) (meanings place)

-- whether, at one of the first `count` places, the value has the bit and the literal is true
abbrev pub any_below : Valuation → List ℕ → List ℕ → ℕ → ℕ → Bool
any_below v literals values j zero = false
any_below v literals values j (suc count) =
    any_below v literals values j count
    || (bit (slice_index values count) j && value v (slice_index literals count))

-- the bits of a table's column
abbrev pub column_bit : List ℕ → List ℕ → ℕ → Valuation → Bool
column_bit literals values j v = any_below v literals values j (length literals)

-- The latches' next literals and the outputs are literals of the gates, and mean the columns of the replies.
pub record AreColumns (machine : Machine) (ns os : List ℕ) (gates : List Gate) : Type 0 where
  pub drafts : Drafted × Drafted × Drafted
  pub minterms : List ℕ
  pub more_nexts : ℕ
  pub more_outputs : ℕ
  pub base : drafts.2.base ≡ 1 + machine.inputs + length ns
  pub is_draft : IsDraft drafts.2
  pub last : drafts.2.gates ≡ gates
  pub mean_minterms : MeanEach drafts.0 (is_minterm machine.inputs (length ns)) minterms
  pub whole : length minterms ≡ machine.states * 2 ^ machine.inputs
  pub extends : Extends more_nexts drafts.0 drafts.1
  pub mean_nexts : MeanEach drafts.1 (column_bit minterms (nexts_below machine (machine.states * 2 ^ machine.inputs))) ns
  pub extends_more : Extends more_outputs drafts.1 drafts.2
  pub mean_outputs : MeanEach drafts.2 (column_bit minterms (outputs_below machine (machine.states * 2 ^ machine.inputs))) os
  pub width : length os ≡ machine.outputs
