-- Updates that were made, and the join of those that a replica took.
use Rattle.std.specs.Prelude.{ℕ, List, All, slice_index_or}
use Rattle.pg_measure.specs.Measures.{BoundList, MeasureValue, zeros}
use Rattle.pg_map.specs.Maps.{IsMap, MapAtMost, update_map}
use Rattle.pg_map.specs.declared.update.Update.{Update}

-- an update: a vertex, and the measure to which it rose
pub record UpdateValue : Type 0 where
  pub vertex : ℕ
  pub measure : MeasureValue

-- the content of an update of a map
abbrev pub update_value : Update → UpdateValue
update_value u = record { vertex = u.vertex; measure = u.measure.value }

-- the update with this number; past the last one, an update that changes nothing
abbrev pub update_at : BoundList → List UpdateValue → ℕ → UpdateValue
update_at bounds updates n = slice_index_or updates n (record { vertex = 0; measure = zeros bounds })

-- the update as a map of `count` vertices: its measure at its vertex, and zeros elsewhere
abbrev pub map_of_update : BoundList → ℕ → UpdateValue → List MeasureValue
map_of_update bounds count u = update_map bounds count u.vertex u.measure

-- f is the join of the updates with these numbers: the map that is at least each of them, and at most every map with that property
pub record IsJoinOf (bounds : BoundList) (count : ℕ) (updates : List UpdateValue) (numbers : List ℕ) (f : List MeasureValue) : Type 0 where
  pub map : IsMap bounds count f
  pub above : All (λ n. MapAtMost (map_of_update bounds count (update_at bounds updates n)) f) numbers
  pub least : (h : List MeasureValue) → IsMap bounds count h
      → All (λ n. MapAtMost (map_of_update bounds count (update_at bounds updates n)) h) numbers → MapAtMost f h
