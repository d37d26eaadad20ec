-- What is proved of claims, over the definitions alone.
use Rattle.std.specs.Prelude.{◌≡◌, ℕ, false, List, length, replicate, Option}
use Rattle.pg_measure.specs.Measures.{BoundList, MeasureValue}
use Rattle.pg_map.specs.Lines.{Line}
use Rattle.pg_map.specs.Maps.{IsMap, IsClosed, MapAtMost, StaysUnder, IsNeverAbove}
use Rattle.pg_map_claims.specs.Claims.{ClaimSet, AreBacked, HasClaimed, IsMapClaimed}
use Rattle.pg_map_claims.specs.Known.{known_map}

-- if claims are backed over a map g, each closed map that is at least g has what they claim
abbrev pub ClaimsHold : Type 0
ClaimsHold =
    (bounds : BoundList) (lines : ℕ → Option Line) (g : List MeasureValue) (claims : ClaimSet) → AreBacked bounds lines g claims
    → (count : ℕ) (h : List MeasureValue) → IsMap bounds count h → IsClosed bounds lines h → MapAtMost g h → HasClaimed claims h

-- so a map that is claimed over g is at most every closed map that g is at most
abbrev pub ClaimedStaysUnder : Type 0
ClaimedStaysUnder =
    (bounds : BoundList) (lines : ℕ → Option Line) (g f : List MeasureValue) (claims : ClaimSet) → length f ≡ length g
    → AreBacked bounds lines g claims → IsMapClaimed g f claims → StaysUnder bounds lines g f

-- and it is never above if g is never above
abbrev pub ClaimedIsNeverAbove : Type 0
ClaimedIsNeverAbove =
    (bounds : BoundList) (lines : ℕ → Option Line) (g f : List MeasureValue) (claims : ClaimSet) → length f ≡ length g
    → IsNeverAbove bounds lines g → AreBacked bounds lines g claims → IsMapClaimed g f claims → IsNeverAbove bounds lines f

-- the map of zeros is never above
abbrev pub ZerosAreKnown : Type 0
ZerosAreKnown =
    (bounds : BoundList) (lines : ℕ → Option Line) (count : ℕ) → IsNeverAbove bounds lines (known_map bounds (replicate count false))
