-- Workers: the part that a worker holds, its map, and how its calls change them.
use Rattle.std.specs.Prelude.{◌≡◌, ℕ, ◌%◌, ◌<◌, ◌≤◌, Bool, false, List, [], ◌∷◌, length, replicate, All, AllPairs, Any, Option, Some, None}
use Rattle.std.specs.Prelude.{IsSome, MatchBool, slice_index_or, slice_set}
use Rattle.std.specs.List.{Contains}
use Rattle.pg_measure.specs.Measures.{BoundList, MeasureValue, owned, Fits, AtMost, IsBelow}
use Rattle.pg_map.specs.Lines.{Line, AreWithin}
use Rattle.pg_map.specs.Maps.{measure_at, IsMap, zero_map, update_map, IsClosed, IsJoin, IsLifted, StaysUnder}
use Rattle.pg_map.specs.declared.update.Update.{Update}
use Rattle.pg_wire.specs.declared.frame.VertexLine.{VertexLine}
use Rattle.pg_coord_partition.specs.Frames.{told_line}
use Rattle.pg_worker.specs.declared.fault.WorkerFault.{WorkerFault}
use Rattle.pg_worker.specs.declared.fault.WorkerFault.TheVariants.{BadUpdate, Order}

-- A worker: the bounds of its measures, for each vertex its line if the vertex is in the part, and the measure of each
-- vertex. `kept` has the updates of a run of lifts that was broken off, `lifted` the vertices of the last turn.
pub record WorkerValue : Type 0 where
  pub bounds : BoundList
  pub lines : List (Option Line)
  pub map : List MeasureValue
  pub kept : List Update
  pub lifted : List ℕ

-- the line of a vertex; none if the vertex isn't in the part
abbrev pub part_line : List (Option Line) → ℕ → Option Line
part_line lines v = slice_index_or lines v None

-- a worker with an empty part, and zeros
abbrev pub new_worker : BoundList → ℕ → WorkerValue
new_worker bounds vertices = record { bounds = bounds; lines = replicate vertices None; map = zero_map bounds vertices; kept = []; lifted = [] }

-- facts about every worker: it has one line and one measure for each vertex; the part's successors are vertices too
pub record IsWorker (w : WorkerValue) : Type 0 where
  pub size : length w.lines ≡ length w.map
  pub map : IsMap w.bounds (length w.map) w.map
  pub within : AreWithin (length w.map) (part_line w.lines)

-- the part with these lines added
abbrev pub with_lines : List (Option Line) → List VertexLine → List (Option Line)
with_lines lines [] = lines
with_lines lines (l ∷ ls) = with_lines (slice_set lines l.vertex (Some (told_line l))) ls

-- the vertices are above those in the part
abbrev pub AreAbove : List (Option Line) → List VertexLine → Type 0
AreAbove lines ls = (v : ℕ) → IsSome (part_line lines v) → All (λ l. v < l.vertex) ls

-- an odd priority has a bound
abbrev pub HasBound : BoundList → ℕ → Type 0
HasBound bounds p = p % 2 ≡ 1 → Any (λ b. b.0 ≡ p) bounds

-- the vertex and its successors are below the count, and an odd priority has a bound
pub record FitsGame (bounds : BoundList) (count : ℕ) (l : VertexLine) : Type 0 where
  pub vertex : l.vertex < count
  pub successors : All (λ w. w < count) l.successors
  pub bound : HasBound bounds l.priority

-- why lines are refused, apart from running out of memory: Order comes before BadUpdate
abbrev pub RefusesLines : WorkerValue → List VertexLine → WorkerFault → Type 0
RefusesLines w ls Order = ¬ (AreAbove w.lines ls)
RefusesLines w ls BadUpdate = AreAbove w.lines ls × ¬ (All (FitsGame w.bounds (length w.map)) ls)
RefusesLines w ls why = ⊥

-- the vertex is below the count, and the measure fits the bounds
abbrev pub CanTake : WorkerValue → ℕ → MeasureValue → Type 0
CanTake w v m = (v < length w.map) × Fits w.bounds m

-- the same part, and as many vertices
pub record KeepsPart (old new : WorkerValue) : Type 0 where
  pub bounds : new.bounds ≡ old.bounds
  pub lines : new.lines ≡ old.lines
  pub size : length new.map ≡ length old.map

-- the map is joined with the measure m of v; `rose` says whether it rose
pub record Takes (old new : WorkerValue) (v : ℕ) (m : MeasureValue) (rose : Bool) : Type 0 where
  pub part : KeepsPart old new
  pub join : IsJoin old.map (update_map old.bounds (length old.map) v m) new.map
  pub change : MatchBool rose
      (IsBelow (measure_at old.map v) m × (new.map ≡ slice_set old.map v m))
      (AtMost m (measure_at old.map v) × (new.map ≡ old.map))
  pub others : (new.kept ≡ old.kept) × (new.lifted ≡ old.lifted)

-- the update is made by a lift of a vertex of the part, which leads from f to g
pub record IsLiftBy (bounds : BoundList) (lines : ℕ → Option Line) (f : List MeasureValue) (u : Update) (g : List MeasureValue) : Type 0 where
  pub mine : IsSome (lines u.vertex)
  pub lifted : IsLifted bounds lines f g u.vertex
  pub measure : u.measure ≡ owned (measure_at g u.vertex) (length bounds)

-- the updates are made by lifts, one after another, which lead from f to g
abbrev pub AreLifts : BoundList → (ℕ → Option Line) → List MeasureValue → List Update → List MeasureValue → Type 0
AreLifts bounds lines f [] g = g ≡ f
AreLifts bounds lines f (u ∷ us) g = (h : List MeasureValue) × IsLiftBy bounds lines f u h × AreLifts bounds lines h us g

-- no vertex of the part can be lifted
abbrev pub IsQuiet : WorkerValue → Type 0
IsQuiet w = IsClosed w.bounds (part_line w.lines) w.map

-- lifts of the part that made these updates, from the old worker to the new one
pub record Lifts (old new : WorkerValue) (updates : List Update) : Type 0 where
  pub part : KeepsPart old new
  pub lifts : AreLifts old.bounds (part_line old.lines) old.map updates new.map
  pub under : StaysUnder old.bounds (part_line old.lines) old.map new.map

-- at most `budget` lifts; fewer only if the worker is quiet after them, as `quiet` says
pub record IsTurn (old new : WorkerValue) (budget : ℕ) (quiet : Bool) (updates : List Update) : Type 0 where
  pub lifts : Lifts old new updates
  pub few : length updates ≤ budget
  pub fewer : quiet ≡ false → length updates ≡ budget
  pub rest : MatchBool quiet (IsQuiet new) (¬ (IsQuiet new))

-- the vertices of the updates, each once, in rising order
pub record AreVerticesOf (updates : List Update) (vertices : List ℕ) : Type 0 where
  pub rising : AllPairs (λ v w. v < w) vertices
  pub each : All (λ u. Contains vertices u.vertex) updates
  pub only : All (λ v. Any (λ u. u.vertex ≡ v) updates) vertices

-- a turn after which `lifted` has the vertices that were lifted in it
pub record IsListedTurn (old new : WorkerValue) (budget : ℕ) (quiet : Bool) : Type 0 where
  pub updates : List Update
  pub turn : IsTurn old new budget quiet updates
  pub lifted : AreVerticesOf updates new.lifted
  pub kept : new.kept ≡ old.kept
