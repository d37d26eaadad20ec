-- Maps in which no measure has risen.
use Rattle.std.specs.Prelude.{◌≡◌, length}
use Rattle.pg_map.specs.Maps.{MapValue, zero_map}

-- the measure of each vertex is zero
abbrev pub IsAtZero : MapValue → Type 0
IsAtZero map = map.measures ≡ zero_map map.bounds (length map.measures)
