-- Words while they are made.
use Rattle.std.specs.Prelude.{◌≡◌, ℕ, ◌+◌, ◌<◌, Bool, not, if◌then◌else◌, nat_eq, ◌%◌, ◌/◌, List, slice_index_or, Contains}
use Rattle.pg_aiger.specs.Circuits.{Circuit}
use Rattle.pg_aiger.specs.Runs.{Valuation, IsStepAt, bit}

abbrev pub word_of : List ℕ → ℕ → ℕ
word_of words x = slice_index_or words x 0

-- a literal's value in a lane
abbrev pub lane_value : List ℕ → ℕ → ℕ → Bool
lane_value words lane literal =
    if nat_eq (literal % 2) 1 then not (bit (word_of words (literal / 2)) lane) else bit (word_of words (literal / 2)) lane

-- in each lane the word has the value of the variable
abbrev pub IsWordFor : Circuit → ℕ → ℕ → ℕ → ℕ → Type 0
IsWordFor circuit state first x word =
    (lane : ℕ) (v : Valuation) → lane < 64 → IsStepAt circuit state (first + lane) v → bit word lane ≡ v x

-- the words of these variables are right
abbrev pub AreWords : Circuit → ℕ → ℕ → List ℕ → List ℕ → Type 0
AreWords circuit state first known words = (x : ℕ) → Contains known x → IsWordFor circuit state first x (word_of words x)
