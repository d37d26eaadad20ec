-- The turns of a session: its state, its replies to frames, and the frames that it refuses.
use Rattle.std.specs.Prelude.{◌≡◌, ◌≢◌, ℕ, ◌<◌, ◌≤◌, ◌==◌, ◌⊎◌, ◌↔◌, IsTrue, Bool, true, false, List, [], ◌∷◌, ◌++◌, length, map, take, All}
use Rattle.std.specs.Prelude.{Option, Some, None, if◌then◌else◌}
use Rattle.std.specs.List.{flat_map}
use Rattle.pg_measure.specs.Measures.{MeasureValue}
use Rattle.pg_map.specs.Maps.{measure_at}
use Rattle.pg_wire.specs.declared.fault.WireFault.{WireFault}
use Rattle.pg_wire.specs.declared.fault.WireFault.TheVariants.{Version, TooLong, Truncated}
use Rattle.pg_wire.specs.declared.fault.WireFault.TheVariants as wire
use Rattle.pg_wire.specs.declared.frame.Setup.{Setup}
use Rattle.pg_wire.specs.declared.frame.VertexLine.{VertexLine}
use Rattle.pg_wire.specs.declared.frame.Frame.{Frame}
use Rattle.pg_wire.specs.declared.frame.Frame.TheVariants as frames
use Rattle.pg_wire.specs.declared.kind.ValueKind.{ValueKind}
use Rattle.pg_wire.specs.declared.kind.ValueKind.TheVariants.{Dense, Sparse}
use Rattle.pg_wire.specs.Spelling.{body, spelling, longest}
use Rattle.pg_wire.specs.Bytes.{Spells, IsTooLong, IsTruncated}
use Rattle.pg_wire.specs.Measured.{Measured, TellsMeasures, told_values, told_sparse, frame_of}
use Rattle.pg_coord_partition.specs.Frames.{kind_of, Joins}
use Rattle.pg_worker.specs.declared.fault.WorkerFault.{WorkerFault}
use Rattle.pg_worker.specs.declared.fault.WorkerFault.TheVariants.{BadUpdate, Order, Wire}
use Rattle.pg_worker.specs.Workers.{WorkerValue, new_worker, with_lines, AreAbove, FitsGame, RefusesLines, CanTake, IsListedTurn}

-- the state of a session from a set-up on: the kind of frames in which values go, whether values or a Go came, and its
-- worker
pub record SessionValue : Type 0 where
  pub kind : ValueKind
  pub is_started : Bool
  pub worker : WorkerValue

-- ---- the state after a frame

-- the state after a set-up: a new worker, and no values or Go yet
abbrev pub fresh : Setup → SessionValue
fresh s = record { kind = kind_of s.version; is_started = false; worker = new_worker s.bounds s.vertices }

-- the lines are added to the worker's part
abbrev pub with_part : SessionValue → List VertexLine → SessionValue
with_part h ls =
    record { kind = h.kind; is_started = h.is_started; worker = record h.worker { lines = with_lines h.worker.lines ls } }

-- values or a Go came, after which this is the worker
abbrev pub started : SessionValue → WorkerValue → SessionValue
started h w = record { kind = h.kind; is_started = true; worker = w }

-- ---- values that are sent

-- each measure belongs to a vertex below the count, and fits the bounds
abbrev pub CanTakeAll : WorkerValue → List Measured → Type 0
CanTakeAll w ms = All (λ m. CanTake w m.0 m.1) ms

-- values of this kind and width are in turn and fit
pub record AreInTurn (h : SessionValue) (kind : ValueKind) (width : ℕ) (ms : List Measured) : Type 0 where
  pub kind_is : h.kind ≡ kind
  pub width_is : width ≡ length h.worker.bounds
  pub fit : CanTakeAll h.worker ms

-- the values are joined with the worker's map
pub record TakesValues (h : SessionValue) (kind : ValueKind) (width : ℕ) (ms : List Measured) (after : Option SessionValue)
    : Type 0 where
  pub in_turn : AreInTurn h kind width ms
  pub map : List MeasureValue
  pub joins : Joins h.worker.map ms map
  pub held : after ≡ Some (started h (record h.worker { map = map }))

-- a kind that isn't in turn comes before a width or a value that doesn't fit
abbrev pub RefusesValues : SessionValue → ValueKind → ℕ → List Measured → WorkerFault → Type 0
RefusesValues h kind width ms why =
    ((why ≡ Order) × (h.kind ≢ kind))
    ⊎ ((why ≡ BadUpdate) × (h.kind ≡ kind) × ¬ ((width ≡ length h.worker.bounds) × CanTakeAll h.worker ms))

-- ---- replies

-- the bytes of a report with this status and code
abbrev pub report : ℕ → ℕ → List ℕ
report status code = spelling (frames.Report (record { status = status; code = code }))

-- the reply to a set-up: a report under version 2, and nothing under version 1
abbrev pub greeting : ℕ → List ℕ
greeting version = if version == 2 then report 1 0 else []

abbrev pub frame_size : ValueKind → ℕ → List Measured → ℕ
frame_size kind width ms = length (body (frame_of kind width ms))

-- with the next measure the frame would be too long
abbrev pub EndsFull : ValueKind → ℕ → List Measured → List (List Measured) → Type 0
EndsFull kind width ms [] = Unit {0}
EndsFull kind width ms (next ∷ more) = longest < frame_size kind width (ms ++ take 1 next)

-- the measures of some frames, one after another: each frame has at least one, none is too long, and one ends only where
-- the next measure wouldn't fit
abbrev pub ArePacked : ValueKind → ℕ → List (List Measured) → Type 0
ArePacked kind width [] = Unit {0}
ArePacked kind width (ms ∷ more) =
    (1 ≤ length ms) × (frame_size kind width ms ≤ longest) × EndsFull kind width ms more × ArePacked kind width more

-- the bytes are frames with these measures
pub record Packs (kind : ValueKind) (width : ℕ) (ms : List Measured) (bytes : List ℕ) : Type 0 where
  pub groups : List (List Measured)
  pub all : flat_map (λ group. group) groups ≡ ms
  pub packed : ArePacked kind width groups
  pub spelled : bytes ≡ flat_map (λ group. spelling (frame_of kind width group)) groups

-- the vertices lifted in the last turn, with their measures
abbrev pub lifted_measures : WorkerValue → List Measured
lifted_measures w = map (λ v. (v, measure_at w.map v)) w.lifted

-- lifts, and the reply: the measures of the vertices that were lifted, and a report
pub record LiftsAndTells (h : SessionValue) (budget : ℕ) (after : Option SessionValue) (reply : List ℕ) : Type 0 where
  pub worker : WorkerValue
  pub quiet : Bool
  pub turn : IsListedTurn h.worker worker budget quiet
  pub held : after ≡ Some (started h worker)
  pub measures : List ℕ
  pub packs : Packs h.kind (length worker.bounds) (lifted_measures worker) measures
  pub reply_is : reply ≡ measures ++ report (if quiet then 1 else 0) 0

-- ---- turns

-- One turn that isn't refused: the state before, the frame, the state after it, and the reply. A set-up or Halt may come at
-- any time, vertices only before the first values or Go, and values only in the kind of the version.
abbrev pub Turn : Option SessionValue → Frame → Option SessionValue → List ℕ → Type 0
Turn before (frames.Setup s) after reply = (after ≡ Some (fresh s)) × (reply ≡ greeting s.version)
Turn before frames.Halt after reply = (after ≡ None) × (reply ≡ [])
Turn None frame after reply = ⊥
Turn (Some h) (frames.Vertices v) after reply =
    (h.is_started ≡ false) × AreAbove h.worker.lines v.lines
    × All (FitsGame h.worker.bounds (length h.worker.map)) v.lines
    × (after ≡ Some (with_part h v.lines)) × (reply ≡ [])
Turn (Some h) (frames.Values v) after reply = TakesValues h Dense v.width (told_values v.values) after × (reply ≡ [])
Turn (Some h) (frames.Sparse v) after reply =
    TakesValues h Sparse v.width (told_sparse v.width v.values) after × (reply ≡ [])
Turn (Some h) (frames.Go g) after reply = LiftsAndTells h g.budget after reply
Turn (Some h) (frames.Report r) after reply = ⊥

-- a set-up has one of the versions that the session accepts
abbrev pub IsUpTo : ℕ → Frame → Type 0
IsUpTo highest (frames.Setup s) = s.version ≤ highest
IsUpTo highest frame = Unit {0}

-- why a session that accepts versions up to `highest` refuses a frame, apart from running out of memory
abbrev pub Refuses : ℕ → Option SessionValue → Frame → WorkerFault → Type 0
Refuses highest before (frames.Setup s) why = (why ≡ Wire Version) × (highest < s.version)
Refuses highest before frames.Halt why = ⊥
Refuses highest None frame why = why ≡ Order
Refuses highest (Some h) (frames.Vertices v) why =
    ((why ≡ Order) × (h.is_started ≡ true)) ⊎ ((h.is_started ≡ false) × RefusesLines h.worker v.lines why)
Refuses highest (Some h) (frames.Values v) why = RefusesValues h Dense v.width (told_values v.values) why
Refuses highest (Some h) (frames.Sparse v) why = RefusesValues h Sparse v.width (told_sparse v.width v.values) why
Refuses highest (Some h) (frames.Go g) why = ⊥
Refuses highest (Some h) (frames.Report r) why = why ≡ Order

-- ---- turns of bytes

-- a frame of vertices or of values, which may be long
abbrev pub HasRows : Frame → Type 0
HasRows (frames.Vertices v) = Unit {0}
HasRows f = TellsMeasures f

-- the bytes spell a frame of vertices or of values
abbrev pub SpellsRows : List ℕ → Type 0
SpellsRows bytes = (f : Frame) × HasRows f × Spells f bytes

-- one turn of the frame that the bytes spell, which halts or not
pub record DoesTurn (highest : ℕ) (before : Option SessionValue) (bytes : List ℕ) (after : Option SessionValue) (halts : Bool)
    (reply : List ℕ) : Type 0 where
  pub frame : Frame
  pub spells : Spells frame bytes
  pub version : IsUpTo highest frame
  pub halt : IsTrue halts ↔ (frame ≡ frames.Halt)
  pub turn : Turn before frame after reply

-- a fault that bytes may have: not running out of memory, nor a read or a write that failed
abbrev pub IsOfBytes : WireFault → Type 0
IsOfBytes fault = (fault ≢ wire.OutOfMemory) × (fault ≢ wire.Read) × (fault ≢ wire.Write)

-- why bytes that spell no frame are refused
pub record IsNoFrame (bytes : List ℕ) (fault : WireFault) : Type 0 where
  pub of_bytes : IsOfBytes fault
  pub none : (f : Frame) → ¬ (Spells f bytes)
  pub too_long : (fault ≡ TooLong) ↔ IsTooLong bytes
  pub truncated : (fault ≡ Truncated) ↔ IsTruncated bytes

-- why a session refuses bytes, apart from running out of memory
abbrev pub RefusesBytes : ℕ → Option SessionValue → List ℕ → WorkerFault → Type 0
RefusesBytes highest before bytes why =
    ((fault : WireFault) × (why ≡ Wire fault) × IsNoFrame bytes fault)
    ⊎ ((f : Frame) × Spells f bytes × Refuses highest before f why)
