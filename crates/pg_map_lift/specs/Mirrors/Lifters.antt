-- Lines that are lifted, with their map.
use Rattle.std.specs.Prelude.{◌≡◌, ℕ, ◌<◌, Bool, true, List, length, Option, IsSome}
use Rattle.pg_map.specs.Lines.{Line, AreWithin}
use Rattle.pg_map.specs.Maps.{MapValue, IsLifted}
use Rattle.pg_map_lift.specs.Mirrors.Watches.{IsWatch}

-- what holds the lines, and their map
pub record LifterValue (X : Type 0) : Type 0 where
  pub lines : X
  pub map : MapValue

-- the lines are within the map's vertices, and while the watch is on it knows which vertices rose
pub record IsLifter (lines : ℕ → Option Line) (map : MapValue) (starts sources : List ℕ) (is_on : Bool) (risen : List ℕ) : Type 0 where
  pub within : AreWithin (length map.measures) lines
  pub watched : is_on ≡ true → IsWatch map.bounds lines map.measures starts sources risen

-- the same lines, and a map over the same bounds and vertices
pub record KeepsLines {X : Type 0} (old new : LifterValue X) : Type 0 where
  pub lines : new.lines ≡ old.lines
  pub bounds : new.map.bounds ≡ old.map.bounds
  pub size : length new.map.measures ≡ length old.map.measures

-- the lift of v
pub record Lifts {X : Type 0} (line : X → ℕ → Option Line) (old new : LifterValue X) (v : ℕ) : Type 0 where
  pub same : KeepsLines old new
  pub held : IsSome (line old.lines v)
  pub below : v < length old.map.measures
  pub lifted : IsLifted old.map.bounds (line old.lines) old.map.measures new.map.measures v
