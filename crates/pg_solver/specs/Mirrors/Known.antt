-- What the map of one side of a game says about the other side.
use Rattle.std.specs.Prelude.{◌≡◌, ℕ, ◌<◌, ◌⊎◌, Bool, true, false, List, length, Option, IsSome, slice_index_or}
use Rattle.pg_measure.specs.Measures.{MeasureValue}
use Rattle.pg_map.specs.Lines.{Line, AreWithin, AreDual}
use Rattle.pg_map.specs.Maps.{measure_at}

-- where the other side is known to have top, the map has a list
abbrev pub IsKnownFrom : List MeasureValue → Bool → ℕ → Type 0
IsKnownFrom g known v = known ≡ true → IsSome (measure_at g v)

-- an entry for each vertex
pub record AreKnownFrom (g : List MeasureValue) (known : List Bool) : Type 0 where
  pub size : length known ≡ length g
  pub each : (v : ℕ) → v < length known → IsKnownFrom g (slice_index_or known v false) v

-- the lines of `count` vertices and the lines of the dual, in either order
pub record AreOpposite (count : ℕ) (lines other : ℕ → Option Line) : Type 0 where
  pub within : AreWithin count lines
  pub other_within : AreWithin count other
  pub held : (v : ℕ) → v < count → IsSome (lines v) × IsSome (other v)
  pub dual : AreDual lines other ⊎ AreDual other lines
