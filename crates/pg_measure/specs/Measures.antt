-- Progress measures over bounds: their order, and when one covers another.
use Rattle.std.specs.Prelude.{◌≡◌, ℕ, ◌%◌, ◌<◌, ◌≤◌, Bool, ◌==◌, nat_le, ◌⊎◌, List, [], ◌∷◌, length, replicate, take, count_by, All}
use Rattle.std.specs.Prelude.{AllPairs, Option, Some, None, MatchBool, option_map}
use Rattle.std.specs.declared.cmp.Ordering.{Ordering}
use Rattle.std.specs.declared.cmp.Ordering.TheVariants.{Less, Equal, Greater}
use Rattle.std.specs.Ordering.{nat_cmp}
use Rattle.std.specs.Cmp.Lexicographic.{slice_cmp}

-- Bounds: each odd priority that occurs, the greatest first, with the number of vertices that have it.
abbrev pub BoundList : Type 0
BoundList = List (ℕ × ℕ)

-- priorities are odd and fall, and each has a vertex
pub record AreBounds (bounds : BoundList) : Type 0 where
  pub odd : All (λ b. b.0 % 2 ≡ 1) bounds
  pub falling : AllPairs (λ b c. c.0 < b.0) bounds
  pub positive : All (λ b. 0 < b.1) bounds

-- A measure: top, which is `None`, or a list with a component for each of the bounds.
abbrev pub MeasureValue : Type 0
MeasureValue = Option (List ℕ)

-- a component for each bound, none of them above its bound
abbrev pub ListFits : BoundList → List ℕ → Type 0
ListFits [] [] = Unit {0}
ListFits [] (x ∷ xs) = ⊥
ListFits (b ∷ bounds) [] = ⊥
ListFits (b ∷ bounds) (x ∷ xs) = (x ≤ b.1) × ListFits bounds xs

-- the measure is within the bounds
abbrev pub Fits : BoundList → MeasureValue → Type 0
Fits bounds None = Unit {0}
Fits bounds (Some xs) = ListFits bounds xs

-- the least measure: a list of zeros
abbrev pub zeros : BoundList → MeasureValue
zeros bounds = Some (replicate (length bounds) 0)

-- the first list is less than the second in lexicographic order
abbrev pub ListBelow : List ℕ → List ℕ → Type 0
ListBelow [] [] = ⊥
ListBelow [] (y ∷ ys) = Unit {0}
ListBelow (x ∷ xs) [] = ⊥
ListBelow (x ∷ xs) (y ∷ ys) = (x < y) ⊎ ((x ≡ y) × ListBelow xs ys)

-- the first list is less than the second in lexicographic order, or they are equal
abbrev pub ListAtMost : List ℕ → List ℕ → Type 0
ListAtMost [] ys = Unit {0}
ListAtMost (x ∷ xs) [] = ⊥
ListAtMost (x ∷ xs) (y ∷ ys) = (x < y) ⊎ ((x ≡ y) × ListAtMost xs ys)

-- top is above every list
abbrev pub IsBelow : MeasureValue → MeasureValue → Type 0
IsBelow None n = ⊥
IsBelow (Some xs) None = Unit {0}
IsBelow (Some xs) (Some ys) = ListBelow xs ys

abbrev pub AtMost : MeasureValue → MeasureValue → Type 0
AtMost None None = Unit {0}
AtMost None (Some ys) = ⊥
AtMost (Some xs) None = Unit {0}
AtMost (Some xs) (Some ys) = ListAtMost xs ys

-- how two measures compare: lists in lexicographic order, and top above every list
abbrev pub measure_cmp : MeasureValue → MeasureValue → Ordering
measure_cmp None None = Equal
measure_cmp None (Some ys) = Greater
measure_cmp (Some xs) None = Less
measure_cmp (Some xs) (Some ys) = slice_cmp nat_cmp xs ys

-- how many bounds have a priority of at least p
abbrev pub width_from : BoundList → ℕ → ℕ
width_from bounds p = count_by (λ b. nat_le p b.0) bounds

-- the components for priorities of at least p: because priorities fall, these are the first ones
abbrev pub components_from : BoundList → ℕ → List ℕ → List ℕ
components_from bounds p xs = take (width_from bounds p) xs

-- the components of a measure for priorities of at least p; top stays top
abbrev pub measure_from : BoundList → ℕ → MeasureValue → MeasureValue
measure_from bounds p m = option_map (components_from bounds p) m

-- m is top, or both are lists and m is at least n in the first `width` components, or greater there if `strict` is true
abbrev pub CoversFront : Bool → ℕ → MeasureValue → MeasureValue → Type 0
CoversFront strict width None n = Unit {0}
CoversFront strict width (Some xs) None = ⊥
CoversFront strict width (Some xs) (Some ys) =
    MatchBool strict (ListBelow (take width ys) (take width xs)) (ListAtMost (take width ys) (take width xs))

abbrev pub is_odd : ℕ → Bool
is_odd p = p % 2 == 1

-- m covers n at p: m is top, or both are lists and m is at least n in the components for priorities of at least p, or greater there if p
-- is odd
abbrev pub Covers : BoundList → ℕ → MeasureValue → MeasureValue → Type 0
Covers bounds p m n = CoversFront (is_odd p) (width_from bounds p) m n

-- r is the least measure within the bounds that covers m at p
pub record IsLeastStep (bounds : BoundList) (p : ℕ) (m r : MeasureValue) : Type 0 where
  pub fits : Fits bounds r
  pub covers : Covers bounds p r m
  pub least : (n : MeasureValue) → Fits bounds n → Covers bounds p n m → AtMost r n

-- A measure that owns its components. It has room for `width` components, even if it is top.
pub record OwnedMeasure : Type 0 where
  pub value : MeasureValue
  pub width : ℕ

abbrev pub owned : MeasureValue → ℕ → OwnedMeasure
owned m n = record { value = m; width = n }

-- a list takes up all of the room
pub record IsOwned (m : OwnedMeasure) : Type 0 where
  pub length_is : (xs : List ℕ) → m.value ≡ Some xs → length xs ≡ m.width
