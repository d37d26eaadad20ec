-- The coordinator's map, and how it rises.
use Rattle.std.specs.Prelude.{◌≡◌, ◌<◌, ◌≤◌, true, false, length}
use Rattle.pg_map.specs.Maps.{MapValue, MapAtMost}
use Rattle.pg_map.specs.Weights.{map_weight}
use Rattle.pg_coord_rounds.specs.declared.coordinator_map.CoordinatorMap.{CoordinatorMap}

-- the map rises, or stays as it is; `rose` says whether it rose in this round
pub record Moves (old new : CoordinatorMap) : Type 0 where
  pub bounds : new.map.bounds ≡ old.map.bounds
  pub size : length new.map.measures ≡ length old.map.measures
  pub above : MapAtMost old.map.measures new.map.measures
  pub stays : new.rose ≡ false → (old.rose ≡ false) × (new.map ≡ old.map)
  pub weight : map_weight old.map.bounds new.map.measures ≤ map_weight old.map.bounds old.map.measures
  pub falls : old.rose ≡ false → new.rose ≡ true
      → map_weight old.map.bounds new.map.measures < map_weight old.map.bounds old.map.measures

-- A reply was received: its link stays honest, and stays under the maps that it was under. The coordinator's map rises and,
-- if the link is honest, stays under each of these maps.
pub record Receives {L : Type 0} (is_honest : L → Type 0) (is_under : L → MapValue → Type 0) (old new : L) (before after : CoordinatorMap)
    : Type 0 where
  pub honest : is_honest old → is_honest new
  pub under : is_honest old → (h : MapValue) → is_under old h → is_under new h
  pub moves : Moves before after
  pub least : is_honest old → (h : MapValue) → is_under old h → MapAtMost before.map.measures h.measures
      → MapAtMost after.map.measures h.measures
