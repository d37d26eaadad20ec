-- Measures stored in rows of numbers: a mark, 0 for a list and 1 for top, followed by the components.
use Rattle.std.proofs.Common.{zero, suc}
use Rattle.std.specs.Prelude.{ℕ, Bool, List, [], ◌∷◌, take, Some, None, MatchBool}
use Rattle.pg_measure.specs.Measures.{BoundList, MeasureValue, Fits, AtMost, ListBelow, ListAtMost, CoversFront}

-- the measure that a row holds; the numbers after the mark of top don't matter
abbrev pub measure_of : List ℕ → MeasureValue
measure_of [] = None
measure_of (zero ∷ xs) = Some xs
measure_of (suc mark ∷ xs) = None

-- the numbers before index j, followed by zeros
abbrev pub cleared : ℕ → List ℕ → List ℕ
cleared j [] = []
cleared zero (x ∷ xs) = 0 ∷ cleared zero xs
cleared (suc j) (x ∷ xs) = x ∷ cleared j xs

-- m is at most n in the first `width` components; top is above every list
abbrev pub FrontAtMost : ℕ → MeasureValue → MeasureValue → Type 0
FrontAtMost width None None = Unit {0}
FrontAtMost width None (Some ys) = ⊥
FrontAtMost width (Some xs) None = Unit {0}
FrontAtMost width (Some xs) (Some ys) = ListAtMost (take width xs) (take width ys)

-- what holds if m doesn't cover n: m is a list, and less than n in the first components, or at most n if `strict` is true
abbrev pub MissesFront : Bool → ℕ → MeasureValue → MeasureValue → Type 0
MissesFront strict width None n = ⊥
MissesFront strict width (Some xs) None = Unit {0}
MissesFront strict width (Some xs) (Some ys) =
    MatchBool strict (ListAtMost (take width xs) (take width ys)) (ListBelow (take width xs) (take width ys))

-- r is the least measure within the bounds that covers m in the first `width` components
pub record IsLeastCover (bounds : BoundList) (strict : Bool) (width : ℕ) (m r : MeasureValue) : Type 0 where
  pub fits : Fits bounds r
  pub covers : CoversFront strict width r m
  pub least : (n : MeasureValue) → Fits bounds n → CoversFront strict width n m → AtMost r n
