-- The runs of a circuit, and the words that they make.
use Rattle.std.specs.Prelude.{◌≡◌, ℕ, suc, ◌+◌, ◌*◌, ◌/◌, ◌%◌, ◌^◌, ◌<◌, ◌≤◌, Bool, false, not, ◌&&◌, nat_eq, List, [], ◌∷◌, length, map}
use Rattle.std.specs.Prelude.{slice_index_or, if◌then◌else◌}
use Rattle.pg_synth.specs.Letters.{joined}
use Rattle.pg_aiger.specs.declared.gate.Gate.{Gate}
use Rattle.pg_aiger.specs.Circuits.{Latch, Circuit, latch_at}

-- a value for each variable
abbrev pub Valuation : Type 0
Valuation = ℕ → Bool

abbrev pub value : Valuation → ℕ → Bool
value v literal = if nat_eq (literal % 2) 1 then not (v (literal / 2)) else v (literal / 2)

abbrev pub bit : ℕ → ℕ → Bool
bit number j = nat_eq (number / 2 ^ j % 2) 1

-- the literals' values are the bits of the number, the first the lowest
abbrev pub HaveBits : Valuation → List ℕ → ℕ → Type 0
HaveBits v literals number = (j : ℕ) → j < length literals → value v (slice_index_or literals j 0) ≡ bit number j

-- each gate is the conjunction of its two literals
abbrev pub Satisfies : Valuation → List Gate → Type 0
Satisfies v [] = Unit {0}
Satisfies v (gate ∷ rest) = (value v gate.lhs ≡ (value v gate.rhs0 && value v gate.rhs1)) × Satisfies v rest

abbrev pub current : Circuit → List ℕ
current circuit = map Latch.literal circuit.latches

abbrev pub nexts : Circuit → List ℕ
nexts circuit = map Latch.next circuit.latches

-- A run over the first `count` input letters: a valuation for each of them. Variable 0 is false; the inputs have the letter's bits; the
-- latches are 0 at first, and later have the values that their next literals had one step before.
pub record IsRun (circuit : Circuit) (input : ℕ → ℕ) (count : ℕ) (run : ℕ → Valuation) : Type 0 where
  pub constant : (t : ℕ) → t < count → run t 0 ≡ false
  pub inputs : (t : ℕ) → t < count → HaveBits (run t) circuit.inputs (input t)
  pub first : (j : ℕ) → 0 < count → j < length circuit.latches → value (run 0) (latch_at circuit j).literal ≡ false
  pub later : (t j : ℕ) → suc t < count → j < length circuit.latches
      → value (run (suc t)) (latch_at circuit j).literal ≡ value (run t) (latch_at circuit j).next
  pub gates : (t : ℕ) → t < count → Satisfies (run t) circuit.gates

-- Each list of input letters has exactly one run, and the run of a longer list starts with the run of a shorter one: as long as both
-- last, they give each variable the same value.
pub record HasOneRun (circuit : Circuit) (input : ℕ → ℕ) : Type 0 where
  pub some : (count : ℕ) → (run : ℕ → Valuation) × IsRun circuit input count run
  pub one : (shorter longer : ℕ) (first second : ℕ → Valuation) → shorter ≤ longer
      → IsRun circuit input shorter first → IsRun circuit input longer second
      → (t x : ℕ) → t < shorter → x ≤ circuit.greatest → first t x ≡ second t x

-- the number whose bits are the values of the literals, the first the lowest
abbrev pub number_of : Valuation → List ℕ → ℕ
number_of v [] = 0
number_of v (literal ∷ rest) = (if value v literal then 1 else 0) + 2 * number_of v rest

-- The letter of a valuation: the inputs stand for the propositions that the environment sets, the outputs for those that the
-- controller sets, both in the order of the propositions.
abbrev pub letter_of : Circuit → List Bool → Valuation → ℕ
letter_of circuit controllable v = joined controllable (number_of v circuit.inputs) (number_of v circuit.outputs)

-- the letter at step t is the letter of the last valuation of the run over the first t + 1 input letters
abbrev pub IsWordOf : Circuit → List Bool → (ℕ → ℕ) → (ℕ → ℕ) → Type 0
IsWordOf circuit controllable input word =
    (t : ℕ) (run : ℕ → Valuation) → IsRun circuit input (suc t) run → word t ≡ letter_of circuit controllable (run t)

-- A valuation of one step, in which the latches have the bits of the state and the inputs the bits of the letter.
pub record IsStepAt (circuit : Circuit) (state letter : ℕ) (v : Valuation) : Type 0 where
  pub constant : v 0 ≡ false
  pub inputs : HaveBits v circuit.inputs letter
  pub latches : (j : ℕ) → j < length circuit.latches → value v (latch_at circuit j).literal ≡ bit state j
  pub gates : Satisfies v circuit.gates

-- The step has a valuation in which the outputs spell `output` and the latches' next literals spell `next`.
pub record Steps (circuit : Circuit) (state letter output next : ℕ) : Type 0 where
  pub valuation : Valuation
  pub step : IsStepAt circuit state letter valuation
  pub outputs : output ≡ number_of valuation circuit.outputs
  pub nexts : next ≡ number_of valuation (nexts circuit)

-- In every run that has these latches and this input letter at some step, the outputs spell `output` there, and the latches spell `next`
-- in the step after it.
abbrev pub GoesOn : Circuit → ℕ → ℕ → ℕ → ℕ → Type 0
GoesOn circuit state letter output next =
    (input : ℕ → ℕ) (count t : ℕ) (run : ℕ → Valuation) → IsRun circuit input count run → t < count
    → number_of (run t) (current circuit) ≡ state → input t ≡ letter
    → (output ≡ number_of (run t) circuit.outputs) × (suc t < count → next ≡ number_of (run (suc t)) (current circuit))
