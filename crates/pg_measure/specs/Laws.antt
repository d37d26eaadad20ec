-- What is proved of measures, from the definitions alone.
use Rattle.std.specs.Prelude.{◌≡◌, ℕ, ◌≤◌, nat_le, ◌⊎◌, List, [], ◌∷◌, length, if◌then◌else◌, All}
use Rattle.std.specs.Ordering.{MatchOrdering}
use Rattle.pg_arena.specs.Games.{GameVertex, HasPrioritiesUpTo}
use Rattle.pg_measure.specs.Measures.{BoundList, AreBounds, MeasureValue, Fits, zeros, AtMost, IsBelow, measure_cmp, components_from, IsLeastStep}
use Rattle.pg_measure.specs.Games.{IsBoundsOf}

-- the order of measures is total, and `IsBelow` means `AtMost` and different
pub record OrderIsTotal : Type 0 where
  pub reflexive : (m : MeasureValue) → AtMost m m
  pub transitive : (m n o : MeasureValue) → AtMost m n → AtMost n o → AtMost m o
  pub antisymmetric : (m n : MeasureValue) → AtMost m n → AtMost n m → m ≡ n
  pub total : (m n : MeasureValue) → IsBelow m n ⊎ AtMost n m
  pub strict : (m n : MeasureValue) → IsBelow m n → AtMost m n × (AtMost n m → ⊥)

-- comparing two measures shows how they are ordered
abbrev pub ComparingTellsOrder : Type 0
ComparingTellsOrder =
    (m n : MeasureValue) → MatchOrdering (measure_cmp m n) (IsBelow m n) (m ≡ n) (IsBelow n m)

-- zeros are the least measure of the bounds
abbrev pub ZerosAreLeast : Type 0
ZerosAreLeast = (bounds : BoundList) → Fits bounds (zeros bounds)
    × ((m : MeasureValue) → Fits bounds m → AtMost (zeros bounds) m)

-- the components for priorities of at least p, selected one by one
abbrev pub components_by_priority : BoundList → ℕ → List ℕ → List ℕ
components_by_priority [] p xs = []
components_by_priority (b ∷ bounds) p [] = []
components_by_priority (b ∷ bounds) p (x ∷ xs) =
    if nat_le p b.0 then x ∷ components_by_priority bounds p xs else components_by_priority bounds p xs

-- because priorities fall, these components are the first ones
abbrev pub ComponentsAreFirst : Type 0
ComponentsAreFirst =
    (bounds : BoundList) (p : ℕ) (xs : List ℕ) → AreBounds bounds
    → components_from bounds p xs ≡ components_by_priority bounds p xs

-- there is only one least measure that covers a given one
abbrev pub OneLeastStep : Type 0
OneLeastStep =
    (bounds : BoundList) (p : ℕ) (m r s : MeasureValue) → IsLeastStep bounds p m r → IsLeastStep bounds p m s → r ≡ s

-- a game has bounds
abbrev pub HasBounds : Type 0
HasBounds = (game : List GameVertex) → (bounds : BoundList) × IsBoundsOf game bounds

-- a game has only one list of bounds
abbrev pub OneListOfBounds : Type 0
OneListOfBounds =
    (game : List GameVertex) (first second : BoundList) → IsBoundsOf game first → IsBoundsOf game second
    → first ≡ second

-- A game whose priorities are at most 65,536, such as a game that is read or its dual, has at most 32,768 bounds, and their priorities
-- are at most 65,535.
abbrev pub BoundsAreFew : Type 0
BoundsAreFew =
    (game : List GameVertex) (bounds : BoundList) → IsBoundsOf game bounds → HasPrioritiesUpTo 65536 game
    → (length bounds ≤ 32768) × All (λ b. b.0 ≤ 65535) bounds
