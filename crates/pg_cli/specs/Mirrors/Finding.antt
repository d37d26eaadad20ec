-- The map of a game that is found over links.
use Rattle.std.specs.Prelude.{List}
use Rattle.pg_arena.specs.Games.{GameVertex}
use Rattle.pg_map.specs.Maps.{MapValue}
use Rattle.pg_cli_command.specs.Measuring.{IsMeasureOf, IsClosedMapOf}

-- the map is closed; if the links are honest, it is the least progress measure
pub record IsFoundIf (are_honest : Type 0) (game : List GameVertex) (map : MapValue) : Type 0 where
  pub closed : IsClosedMapOf game map
  pub least : are_honest → IsMeasureOf game map
