-- Worlds: a coordinator and workers that lift, take each other's updates in any order, lose and repeat them, and start anew.
use Rattle.std.specs.Prelude.{◌≡◌, ◌⊎◌, ℕ, ◌+◌, ◌<◌, ◌&&◌, ◌==◌, Bool, nat_lt, nat_le, List, [], ◌∷◌, ◌++◌, Option, Some, None, length}
use Rattle.std.specs.Prelude.{replicate, take, slice_get, slice_index_or, slice_set, if◌then◌else◌}
use Rattle.pg_arena.specs.Games.{GameVertex, identifier}
use Rattle.pg_measure.specs.Measures.{BoundList, MeasureValue, IsBelow}
use Rattle.pg_map.specs.Lines.{game_line}
use Rattle.pg_map.specs.Maps.{measure_at, IsServed, IsLeastServing}
use Rattle.pg_coord_partition.specs.Cuts.{CutValue, worker_of}
use Rattle.pg_world.specs.Updates.{UpdateValue, IsJoinOf}
use Rattle.pg_world.specs.declared.event.Event.{Event}
use Rattle.pg_world.specs.declared.event.Event.TheVariants.{Lift, Deliver, Restart, CoordinatorLift}
use Rattle.pg_world.specs.declared.fault.WorldFault.{WorldFault}
use Rattle.pg_world.specs.declared.fault.WorldFault.TheVariants.{OutOfMemory, NoSuchReplica, NotMine, NoSuchUpdate, CutMismatch}

-- A world: its game, the game's bounds, the cut among workers, the updates ever made in their order, and for each replica
-- the numbers of those that it took since its last restart, in order, including its own. Replica 0 is the coordinator.
pub record WorldValue : Type 0 where
  pub game : List GameVertex
  pub bounds : BoundList
  pub cut : CutValue
  pub updates : List UpdateValue
  pub taken : List (List ℕ)

-- at first nothing was made, and nothing taken
abbrev pub new_world : List GameVertex → BoundList → CutValue → WorldValue
new_world game bounds cut =
    record { game = game; bounds = bounds; cut = cut; updates = []; taken = replicate (1 + cut.workers) [] }

-- the numbers of the updates that the replica r took
abbrev pub taken_of : WorldValue → ℕ → List ℕ
taken_of w r = slice_index_or w.taken r []

-- f is the map of the replica r: the join of the updates that it took
abbrev pub IsMapOf : WorldValue → ℕ → List MeasureValue → Type 0
IsMapOf w r f = IsJoinOf w.bounds (length w.game) w.updates (taken_of w r) f

-- the replica r takes the update with the number n
abbrev pub taking : WorldValue → ℕ → ℕ → WorldValue
taking w r n = record w { taken = slice_set w.taken r (taken_of w r ++ n ∷ []) }

-- the replica r forgets every update that it took
abbrev pub forgetting : WorldValue → ℕ → WorldValue
forgetting w r = record w { taken = slice_set w.taken r [] }

-- the update u is made, and the replica r takes it
abbrev pub making : WorldValue → ℕ → UpdateValue → WorldValue
making w r u = record (taking w r (length w.updates)) { updates = w.updates ++ u ∷ [] }

-- The lift of v in the map f: if v is served there, nothing happens; otherwise the least measure that serves it is made.
abbrev pub LiftsIn : List MeasureValue → WorldValue → ℕ → ℕ → WorldValue → Type 0
LiftsIn f old r v new =
    (IsServed old.bounds (game_line old.game) f v × (new ≡ old))
    ⊎ ((m : MeasureValue) × IsLeastServing old.bounds (game_line old.game) f v m × IsBelow (measure_at f v) m
    × (new ≡ making old r (record { vertex = v; measure = m })))

-- the replica r lifts v in its map
abbrev pub Lifts : WorldValue → ℕ → ℕ → WorldValue → Type 0
Lifts old r v new = (f : List MeasureValue) × IsMapOf old r f × LiftsIn f old r v new

-- the world after an event
abbrev pub Steps : WorldValue → Event → WorldValue → Type 0
Steps old (Lift worker v) new = Lifts old worker v new
Steps old (Deliver replica n) new = new ≡ taking old replica n
Steps old (Restart worker) new = new ≡ forgetting old worker
Steps old (CoordinatorLift v) new = Lifts old 0 v new

-- workers are numbered from 1 on
abbrev pub is_worker : WorldValue → ℕ → Bool
is_worker w n = nat_lt 0 n && nat_le n w.cut.workers

-- the first reason why an event is refused
abbrev pub refusal : WorldValue → Event → Option WorldFault
refusal w (Lift worker v) =
    if is_worker w worker then (if worker_of w.cut v == worker then None else Some (NotMine worker (identifier w.game v)))
    else Some (NoSuchReplica worker)
refusal w (Deliver replica n) =
    if nat_le replica w.cut.workers then (if nat_lt n (length w.updates) then None else Some (NoSuchUpdate n))
    else Some (NoSuchReplica replica)
refusal w (Restart worker) = if is_worker w worker then None else Some (NoSuchReplica worker)
refusal w (CoordinatorLift v) = None

-- an event is refused for the reason against it, or because memory runs out
abbrev pub IsRefusedBy : WorldFault → Option WorldFault → Type 0
IsRefusedBy OutOfMemory reason = Unit {0}
IsRefusedBy fault reason = reason ≡ Some fault

-- the vertex that an event names is one of the game
abbrev pub IsEventOf : List GameVertex → Event → Type 0
IsEventOf game (Lift worker v) = v < length game
IsEventOf game (Deliver replica n) = Unit {0}
IsEventOf game (Restart worker) = Unit {0}
IsEventOf game (CoordinatorLift v) = v < length game

-- the events one after another, none of them refused
abbrev pub Runs : WorldValue → List Event → WorldValue → Type 0
Runs old [] new = new ≡ old
Runs old (e ∷ es) new = (mid : WorldValue) × (refusal old e ≡ None) × Steps old e mid × Runs mid es new

-- The events before the place `at` happened and led from `old` to `new`; the event there was refused.
pub record StopsAt (old : WorldValue) (events : List Event) (at : ℕ) (fault : WorldFault) (new : WorldValue) : Type 0 where
  pub before : Runs old (take at events) new
  pub event : Event
  pub there : slice_get events at ≡ Some event
  pub refused : IsRefusedBy fault (refusal new event)

-- why a cut doesn't fit a game
abbrev pub cut_fault : List GameVertex → CutValue → Option WorldFault
cut_fault game cut = if length cut.numbers == length game then None else Some CutMismatch
