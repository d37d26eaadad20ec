-- The places of a lasso, one after another, and the values of formulas at each.
use Rattle.std.specs.Prelude.{◌≡◌, ℕ, zero, suc, ◌+◌, ◌≤◌, ◌<◌, ◌==◌, ◌⊎◌, Bool, true, false, List, length, slice_index_or, if◌then◌else◌}
use Rattle.std.specs.declared.vec.Vec.{Vec}
use Rattle.std.specs.declared.alloc.Global.{Global}
use Rattle.pg_ltl.specs.NormalForms.{NormalForm, Holds}
use Rattle.pg_means_look.specs.Automata.{Automaton, IsWord, IsAccepted}
use Rattle.pg_means_look.specs.Lassos.{lasso}
use Rattle.pg_means_look.specs.Mirrors.Tables.{row_at, truth_at}
use Rattle.pg_means_look.specs.Mirrors.Choices.{part}

-- the place after one of `count` places; `back` follows the last one
abbrev pub behind : ℕ → ℕ → ℕ → ℕ
behind count back place = if place + 1 == count then back else place + 1

abbrev pub place_at : ℕ → ℕ → ℕ → ℕ
place_at count back zero = 0
place_at count back (suc t) = behind count back (place_at count back t)

abbrev pub value_at : List Bool → ℕ → Bool
value_at values place = slice_index_or values place false

-- which propositions hold at each step of the lasso
abbrev pub word_of : List (Vec Bool Global) → List ℕ → ℕ → ℕ → ℕ → Bool
word_of truths letters back t p = truth_at truths p (lasso letters back t)

-- wherever a value is true, the formula holds
abbrev pub IsSound : ℕ → ℕ → (ℕ → ℕ → Bool) → NormalForm → List Bool → Type 0
IsSound count back word form values = (t : ℕ) → value_at values (place_at count back t) ≡ true → Holds word form t

-- the values of each formula of a list are sound
abbrev pub AreSound : ℕ → ℕ → (ℕ → ℕ → Bool) → List NormalForm → List (Vec Bool Global) → Type 0
AreSound count back word forms rows = (k : ℕ) → k < length rows → IsSound count back word (part forms k) (row_at rows k)

-- where a value is true, the right side is true, and the left side or the next value is
abbrev pub IsClosed : ℕ → List Bool → List Bool → List Bool → Type 0
IsClosed back left right values =
    (i : ℕ) → i < length values → value_at values i ≡ true
    → (value_at right i ≡ true) × ((value_at left i ≡ true) ⊎ (value_at values (behind (length values) back i) ≡ true))

-- the state at each place, and the state after the last place
pub record IsRunOn (a : Automaton) (letters states : List ℕ) : Type 0 where
  pub long : length states ≡ length letters + 1
  pub start : slice_index_or states 0 0 ≡ a.start
  pub steps : (i : ℕ) → i < length letters
      → slice_index_or states (i + 1) 0 ≡ a.target (slice_index_or states i 0) (slice_index_or letters i 0)

abbrev pub priority_on : Automaton → List ℕ → List ℕ → ℕ → ℕ
priority_on a letters states i = a.priority (slice_index_or states i 0) (slice_index_or letters i 0)

-- the greatest priority at the places from `back` on
pub record IsGreatestOn (a : Automaton) (letters states : List ℕ) (back p : ℕ) : Type 0 where
  pub bounds : (i : ℕ) → back ≤ i → i < length letters → priority_on a letters states i ≤ p
  pub at : ℕ
  pub from : back ≤ at
  pub below : at < length letters
  pub is : priority_on a letters states at ≡ p

-- the lasso satisfies the formula, and is accepted for the parity 0 and rejected for the parity 1
pub record IsShown (a : Automaton) (form : NormalForm) (parity : ℕ) (letters : List ℕ) (back : ℕ) : Type 0 where
  pub comes_round : back < length letters
  pub within : IsWord a (lasso letters back)
  pub accepted : parity ≡ 0 → IsAccepted a (lasso letters back)
  pub rejected : parity ≡ 1 → ¬ IsAccepted a (lasso letters back)
  pub holds : Holds (λ t. a.on (lasso letters back t)) form 0
