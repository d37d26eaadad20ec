-- What is known of a map while it is lifted.
use Rattle.std.specs.Prelude.{◌≡◌, ℕ, length, Option}
use Rattle.pg_map.specs.Lines.{Line}
use Rattle.pg_map.specs.Maps.{MapValue, StaysUnder}

-- the new map is at most every closed map that the old one was at most
pub record IsRaised (lines : ℕ → Option Line) (from map : MapValue) : Type 0 where
  pub bounds : map.bounds ≡ from.bounds
  pub size : length map.measures ≡ length from.measures
  pub under : StaysUnder from.bounds lines from.measures map.measures
