-- Lassos, and what is known of their steps.
use Rattle.std.specs.Prelude.{◌≡◌, ℕ, ◌+◌, ◌<◌, Bool, true, false, List, Option, Some, None, length, map, replicate, slice_index_or}
use Rattle.std.specs.declared.vec.Vec.{Vec}
use Rattle.std.specs.declared.alloc.Global.{Global}
use Rattle.pg_aiger.specs.declared.gate.Latch.{Latch}
use Rattle.pg_aiger.specs.Circuits.{no_latch}
use Rattle.pg_aiger.specs.Runs.{Valuation, value, HaveBits}
use Rattle.pg_aiger_netlist.specs.Steps.{spelt}
use Rattle.pg_ltl.specs.NormalForms.{NormalForm, top, bottom, literal, both, either, next, until, release}
use Rattle.pg_means_look.specs.Mirrors.Tables.{row_at}
use Rattle.pg_means_look.specs.Mirrors.Places.{behind}
use Rattle.pg_satisfies_check.specs.declared.system.CircuitPart.{CircuitPart}
use Rattle.pg_satisfies_check.specs.Certificates.{IsStep}
use Rattle.pg_satisfies_check.specs.Mirrors.Known.{known_at}
use Rattle.pg_satisfies_check.specs.Mirrors.Steps.{circuit_of, IsSeen, Rows}

-- the latches have the first values, as far as they are known
abbrev pub AreTaken : List Latch → List (Option Bool) → Valuation → Type 0
AreTaken latches values u =
    (j : ℕ) (b : Bool) → j < length latches → known_at values j ≡ Some b → value u (slice_index_or latches j no_latch).literal ≡ b

-- a step with these inputs in which the latches have the first values
pub record IsStepWith (s : CircuitPart) (inputs : List ℕ) (letter : List Bool) (values : List (Option Bool)) (u : Valuation) : Type 0 where
  pub step : IsStep (circuit_of s) u
  pub inputs_are : HaveBits u inputs (spelt letter)
  pub latches : AreTaken s.latches.items values u

-- in each such step the row is right
abbrev pub IsLink : CircuitPart → List ℕ → List Bool → List (Option Bool) → List (Option Bool) → Type 0
IsLink s inputs letter values row = (u : Valuation) → IsStepWith s inputs letter values u → IsSeen s row u

-- the values of latches that are all 0
abbrev pub off : CircuitPart → List (Option Bool)
off s = replicate (length s.latches.items) (Some false)

-- each row is right after the one before it, and the first one at first
pub record AreLinked (s : CircuitPart) (inputs : List ℕ) (letters : List (Vec Bool Global)) (rows : Rows) (back : ℕ) : Type 0 where
  pub first : IsLink s inputs (row_at letters 0) (off s) (row_at rows 0)
  pub later : (i : ℕ) → i < length rows
      → IsLink s inputs (row_at letters (behind (length rows) back i)) (row_at rows i) (row_at rows (behind (length rows) back i))

-- each row knows the value at this place
abbrev pub IsKnownOn : Rows → ℕ → Type 0
IsKnownOn rows k = (i : ℕ) → i < length rows → (b : Bool) × (known_at (row_at rows i) k ≡ Some b)

-- each row knows whether the proposition holds
abbrev pub IsToldOn : CircuitPart → Rows → ℕ → Type 0
IsToldOn s rows p = (p < length s.literals.items) × IsKnownOn rows (length s.latches.items + p)

-- each row knows whether each proposition holds that the formula has
abbrev pub AreToldOn : CircuitPart → Rows → NormalForm → Type 0
AreToldOn s rows top = Unit {0}
AreToldOn s rows bottom = Unit {0}
AreToldOn s rows (literal p value) = IsToldOn s rows p
AreToldOn s rows (both f g) = AreToldOn s rows f × AreToldOn s rows g
AreToldOn s rows (either f g) = AreToldOn s rows f × AreToldOn s rows g
AreToldOn s rows (next f) = AreToldOn s rows f
AreToldOn s rows (until f g) = AreToldOn s rows f × AreToldOn s rows g
AreToldOn s rows (release f g) = AreToldOn s rows f × AreToldOn s rows g

-- whether the value is known to be true
abbrev pub is_true : Option Bool → Bool
is_true None = false
is_true (Some b) = b

-- for each row whether the value at the place is known to be true
abbrev pub truth_on : Rows → ℕ → List Bool
truth_on rows place = map (λ (row : Vec (Option Bool) Global). is_true (known_at row.items place)) rows

-- the numbers of the input letters
abbrev pub letters_of : List (Vec Bool Global) → List ℕ
letters_of letters = map (λ (letter : Vec Bool Global). spelt letter.items) letters
