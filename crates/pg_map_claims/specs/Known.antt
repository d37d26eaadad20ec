-- What is known of closed maps without claims.
use Rattle.std.specs.Prelude.{Bool, List, map, None, if◌then◌else◌}
use Rattle.pg_measure.specs.Measures.{BoundList, MeasureValue, zeros}

-- top at some vertices, and zeros elsewhere
abbrev pub known_map : BoundList → List Bool → List MeasureValue
known_map bounds known = map (λ t. if t then None else zeros bounds) known
