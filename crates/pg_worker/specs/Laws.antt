-- Laws of workers and sessions, stated by the definitions alone.
use Rattle.std.specs.Prelude.{◌≡◌, ◌≢◌, ℕ, ◌<◌, List, [], ◌∷◌, ◌++◌, length, map, All, Option}
use Rattle.pg_measure.specs.Measures.{BoundList, MeasureValue, AtMost}
use Rattle.pg_map.specs.Lines.{Line}
use Rattle.pg_map.specs.Maps.{MapValue, measure_at, IsMap, zero_map, update_map, MapAtMost, IsClosed, IsJoin}
use Rattle.pg_map.specs.declared.update.Update.{Update}
use Rattle.pg_wire.specs.declared.frame.Setup.{Setup}
use Rattle.pg_wire.specs.declared.frame.Frame.{Frame}
use Rattle.pg_wire.specs.declared.frame.Frame.TheVariants as frames
use Rattle.pg_wire.specs.Well.{IsSetup}
use Rattle.pg_worker.specs.Workers.{part_line, AreLifts}
use Rattle.pg_wire.specs.Measured.{Measured}
use Rattle.pg_coord_partition.specs.Frames.{IsAtLeast, Joins, measures_in}
use Rattle.pg_worker.specs.Turns.{SessionValue, lifted_measures, LiftsAndTells}
use Rattle.pg_worker.specs.Serving.{Replies}
use Rattle.pg_worker.specs.Above.{AreFrames, IsAboveFrames}

-- a change of a worker's map once its part is complete: a value is taken, or lifts make updates
pub data Step : Type 0 where
  Taken : ℕ → MeasureValue → Step
  Lifted : List Update → Step

-- the steps, one after another, lead from f to g
abbrev pub AreSteps : BoundList → (ℕ → Option Line) → List MeasureValue → List Step → List MeasureValue → Type 0
AreSteps bounds lines f [] g = g ≡ f
AreSteps bounds lines f (Taken v m ∷ ss) g =
    (h : List MeasureValue) × (v < length f) × (length h ≡ length f) × IsJoin f (update_map bounds (length f) v m) h × AreSteps bounds lines h ss g
AreSteps bounds lines f (Lifted us ∷ ss) g =
    (h : List MeasureValue) × (length h ≡ length f) × AreLifts bounds lines f us h × AreSteps bounds lines h ss g

-- the map is at least every value taken
abbrev pub IsAtLeastTaken : List Step → List MeasureValue → Type 0
IsAtLeastTaken [] h = Unit {0}
IsAtLeastTaken (Taken v m ∷ ss) h = AtMost m (measure_at h v) × IsAtLeastTaken ss h
IsAtLeastTaken (Lifted us ∷ ss) h = IsAtLeastTaken ss h

-- the updates that the steps join to a map: the values taken, and those that lifts made
abbrev pub updates_in : List Step → List Measured
updates_in [] = []
updates_in (Taken v m ∷ ss) = (v, m) ∷ updates_in ss
updates_in (Lifted us ∷ ss) = map (λ u. (u.vertex, u.measure.value)) us ++ updates_in ss

-- a worker's map is the join of everything that it took and lifted: the least map that is at least zeros and each of these
abbrev pub StepsJoin : Type 0
StepsJoin =
    (bounds : BoundList) (lines : ℕ → Option Line) (count : ℕ) (ss : List Step) (g : List MeasureValue)
    → AreSteps bounds lines (zero_map bounds count) ss g → Joins (zero_map bounds count) (updates_in ss) g

-- a worker's map is at most every map that is both closed on its part and at least every value taken
abbrev pub StepsStayUnder : Type 0
StepsStayUnder =
    (bounds : BoundList) (lines : ℕ → Option Line) (count : ℕ) (ss : List Step) (g h : List MeasureValue)
    → AreSteps bounds lines (zero_map bounds count) ss g
    → IsMap bounds count h → IsClosed bounds lines h → IsAtLeastTaken ss h → MapAtMost g h

-- the measures that a worker sends after lifts are at most those of every map that is closed on the part and at least the
-- worker's map
abbrev pub ToldStayUnder : Type 0
ToldStayUnder =
    (h : SessionValue) (budget : ℕ) (after : Option SessionValue) (reply : List ℕ) (k : List MeasureValue)
    (t : LiftsAndTells h budget after reply)
    → IsMap h.worker.bounds (length h.worker.map) k → IsClosed h.worker.bounds (part_line h.worker.lines) k → MapAtMost h.worker.map k
    → IsAtLeast k (lifted_measures t.worker)

-- The replies of a session to a set-up and to the frames after it, none of which is another set-up, are frames. Each
-- measure in them is at most that of every map over the set-up's bounds and vertices that is closed at each vertex sent and
-- at least each value sent.
abbrev pub RepliesStayUnder : Type 0
RepliesStayUnder =
    (s : Setup) (fs : List Frame) (before after : Option SessionValue) (replies : List ℕ) (h : MapValue)
    → IsSetup s → All (λ f. (t : Setup) → f ≢ frames.Setup t) fs → Replies before (frames.Setup s ∷ fs) after replies
    → IsAboveFrames s fs h → AreFrames (λ f. IsAtLeast h.measures (measures_in f)) replies
