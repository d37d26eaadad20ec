-- The task that is solved.
use Rattle.std.specs.Prelude.{◌≡◌, List, length}
use Rattle.pg_arena.specs.Games.{GameVertex, IsGame}
use Rattle.pg_measure.specs.Measures.{BoundList}
use Rattle.pg_measure.specs.Games.{IsBoundsOf}
use Rattle.pg_map.specs.Lines.{AreWithin, game_line}
use Rattle.pg_map.specs.Maps.{MapValue, IsMap, IsClosed}
use Rattle.pg_wire.specs.Well.{IsSetup}
use Rattle.pg_coord_partition.specs.Cuts.{CutValue}

-- a game that is cut among workers, and its bounds
pub record TaskValue : Type 0 where
  pub game : List GameVertex
  pub cut : CutValue
  pub bounds : BoundList

pub record IsTask (t : TaskValue) : Type 0 where
  pub game : IsGame t.game
  pub lines : AreWithin (length t.game) (game_line t.game)
  pub cut : length t.cut.numbers ≡ length t.game
  pub bounds : IsBoundsOf t.game t.bounds
  pub well : IsSetup (record { version = 2; vertices = length t.game; bounds = t.bounds })

-- a closed map of the game
pub record IsClosedMap (t : TaskValue) (h : MapValue) : Type 0 where
  pub bounds : h.bounds ≡ t.bounds
  pub map : IsMap t.bounds (length t.game) h.measures
  pub closed : IsClosed t.bounds (game_line t.game) h.measures
