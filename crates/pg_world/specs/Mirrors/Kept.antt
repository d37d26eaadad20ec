-- Facts that a world keeps true of its replicas.
use Rattle.std.specs.Prelude.{◌≡◌, ◌⊎◌, ℕ, ◌+◌, ◌<◌, ◌≤◌, List, [], All, Contains, map, length, Option, slice_index_or}
use Rattle.std.specs.declared.vec.Vec.{Vec}
use Rattle.std.specs.declared.alloc.Global.{Global}
use Rattle.pg_arena.specs.Games.{GameVertex, IsGame}
use Rattle.pg_measure.specs.Measures.{BoundList, MeasureValue, OwnedMeasure, Fits, zeros, AtMost, IsBelow}
use Rattle.pg_measure.specs.Games.{IsBoundsOf}
use Rattle.pg_map.specs.Lines.{Line, game_line}
use Rattle.pg_map.specs.Maps.{measure_at, IsMap, IsClosed, IsLeastServing}
use Rattle.pg_map.specs.declared.update.Update.{Update}
use Rattle.pg_coord_partition.specs.Cuts.{CutValue}
use Rattle.pg_world.specs.declared.replica.ReplicaMap.{ReplicaMap}
use Rattle.pg_world.specs.declared.replica.TheConstants.{NO_UPDATE}
use Rattle.pg_world.specs.Updates.{UpdateValue, update_value, update_at}
use Rattle.pg_world.specs.Worlds.{WorldValue, taken_of, IsMapOf}

-- the world as contracts see it
abbrev pub viewed : List GameVertex → BoundList → CutValue → List Update → List (Vec ℕ Global) → WorldValue
viewed game bounds cut updates taken =
    record { game = game; bounds = bounds; cut = cut; updates = map update_value updates; taken = map (λ t. t.items) taken }

-- an update of a vertex to a measure that is at most its measure in each closed map
pub record IsMade (bounds : BoundList) (lines : ℕ → Option Line) (count : ℕ) (u : UpdateValue) : Type 0 where
  pub within : u.vertex < count
  pub fits : Fits bounds u.measure
  pub under : (h : List (Option (List ℕ))) → IsMap bounds count h → IsClosed bounds lines h → AtMost u.measure (measure_at h u.vertex)

-- facts about a world after any events
pub record IsWorld (w : WorldValue) : Type 0 where
  pub game : IsGame w.game
  pub bounds : IsBoundsOf w.game w.bounds
  pub size : length w.taken ≡ 1 + w.cut.workers
  pub made : All (IsMade w.bounds (game_line w.game) (length w.game)) w.updates
  pub taken : (r : ℕ) → All (λ n. n < length w.updates) (taken_of w r)

-- the map that shows at each vertex the measure of the update with its number, or zeros if no update has it
abbrev pub shown : BoundList → List UpdateValue → List ℕ → List MeasureValue
shown bounds updates greatest = map (λ n. (update_at bounds updates n).measure) greatest

-- the map that is borrowed
abbrev pub shown_by : ReplicaMap → List MeasureValue
shown_by m = shown m.bounds.now (map update_value m.updates.now) m.greatest.now

-- the measure for vertices without an update is zeros
abbrev pub HasZero : ReplicaMap → Type 0
HasZero m = m.zero.now.value ≡ zeros m.bounds.now

-- each vertex has no update, or one of the updates of this vertex that were taken
abbrev pub ComeFrom : List UpdateValue → List ℕ → List ℕ → Type 0
ComeFrom updates taken greatest =
    (v : ℕ) → let n = slice_index_or greatest v NO_UPDATE in
    (n ≡ NO_UPDATE) ⊎ (Contains taken n × ((d : UpdateValue) → (slice_index_or updates n d).vertex ≡ v))

-- for each vertex these are the greatest updates that the replica r took
pub record IsReplica (w : WorldValue) (r : ℕ) (greatest : List ℕ) : Type 0 where
  pub map : IsMapOf w r (shown w.bounds w.updates greatest)
  pub from : ComeFrom w.updates (taken_of w r) greatest

-- the world holds the greatest updates of each replica
pub record AreReplicas (w : WorldValue) (zero : OwnedMeasure) (greatest : List (List ℕ)) : Type 0 where
  pub world : IsWorld w
  pub cut : length w.cut.numbers ≡ length w.game
  pub zero_is : zero.value ≡ zeros w.bounds
  pub few : length w.updates ≤ NO_UPDATE
  pub count : length greatest ≡ 1 + w.cut.workers
  pub each : (r : ℕ) → r ≤ w.cut.workers → IsReplica w r (slice_index_or greatest r [])

-- the update is the one that a lift of its vertex in the map of the replica r makes
abbrev pub LiftsTo : WorldValue → ℕ → UpdateValue → Type 0
LiftsTo w r u =
    (f : List MeasureValue) → IsMapOf w r f
    → IsLeastServing w.bounds (game_line w.game) f u.vertex u.measure × IsBelow (measure_at f u.vertex) u.measure

-- the update is above the measure of the replica r at its vertex
abbrev pub Raises : WorldValue → ℕ → UpdateValue → Type 0
Raises w r u = (f : List MeasureValue) → IsMapOf w r f → IsBelow (measure_at f u.vertex) u.measure

-- the update is at most the measure of the replica r at its vertex
abbrev pub IsCovered : WorldValue → ℕ → UpdateValue → Type 0
IsCovered w r u = (f : List MeasureValue) → IsMapOf w r f → AtMost u.measure (measure_at f u.vertex)
