-- Links to workers in the same process.
use Rattle.std.specs.Prelude.{◌≡◌, ◌⊎◌, ℕ, Bool, true, false, List, [], ◌++◌, Option, None, IfSome, MatchBool}
use Rattle.pg_map.specs.Maps.{MapValue}
use Rattle.pg_wire.specs.declared.fault.WireFault.{WireFault}
use Rattle.pg_wire.specs.declared.frame.Frame.{Frame}
use Rattle.pg_wire.specs.declared.frame.Frame.TheVariants as frames
use Rattle.pg_wire.specs.Bytes.{Spells}
use Rattle.pg_worker.specs.declared.fault.WorkerFault.{WorkerFault}
use Rattle.pg_worker.specs.declared.fault.WorkerFault.TheVariants.{Wire}
use Rattle.pg_coord_partition.specs.Frames.{IsAtLeast, measures_in}
use Rattle.pg_worker.specs.Turns.{SessionValue, Turn, IsUpTo, Refuses, IsNoFrame}
use Rattle.pg_worker.specs.Serving.{report_bytes}
use Rattle.pg_worker.specs.Above.{AreFrames, IsAboveSession}

-- A link: the highest version that its session accepts, the session's state, whether it refused a frame since it was
-- started and so drops the frames that are sent, the bytes of the frames that wait, and the number of calls that were
-- Failed.
pub record MemoryValue : Type 0 where
  pub highest : ℕ
  pub held : Option SessionValue
  pub has_refused : Bool
  pub waiting : List ℕ
  pub failures : ℕ

-- a link that was just started, with this number of failures before
abbrev pub started_link : ℕ → ℕ → MemoryValue
started_link highest failures =
    record { highest = highest; held = None; has_refused = false; waiting = []; failures = failures }

-- ---- frames that are sent

-- the bytes that still wait once a frame was sent, before the reply to it: none after a set-up
abbrev pub still_waiting : Frame → List ℕ → List ℕ
still_waiting (frames.Setup s) waiting = []
still_waiting f waiting = waiting

-- the session does its turn, and its reply is appended to the bytes that still wait
pub record Answers (f : Frame) (old new : MemoryValue) : Type 0 where
  pub reply : List ℕ
  pub version : IsUpTo old.highest f
  pub turn : Turn old.held f new.held reply
  pub waiting : new.waiting ≡ still_waiting f old.waiting ++ reply
  pub refused : new.has_refused ≡ false

-- the session holds nothing any more, and the report of the fault is appended to the bytes that still wait
pub record Reports (why : WorkerFault) (before : List ℕ) (new : MemoryValue) : Type 0 where
  pub held : new.held ≡ None
  pub waiting : new.waiting ≡ before ++ report_bytes why
  pub refused : new.has_refused ≡ true

-- the session refuses the frame, and reports why
abbrev pub RefusesFrame : Frame → MemoryValue → MemoryValue → Type 0
RefusesFrame f old new =
    (why : WorkerFault) × Refuses old.highest old.held f why × Reports why (still_waiting f old.waiting) new

-- the frame is dropped, and the session still holds nothing; a set-up still drops the frames that waited
pub record Drops (f : Frame) (old new : MemoryValue) : Type 0 where
  pub held : new.held ≡ None
  pub waiting : new.waiting ≡ still_waiting f old.waiting
  pub refused : new.has_refused ≡ true

-- a frame is sent
abbrev pub Sends : Frame → MemoryValue → MemoryValue → Type 0
Sends f old new = MatchBool old.has_refused (Drops f old new) (Answers f old new ⊎ RefusesFrame f old new)

-- bytes are sent that spell no frame
abbrev pub SendsNoFrame : List ℕ → MemoryValue → MemoryValue → Type 0
SendsNoFrame bytes old new =
    MatchBool old.has_refused (new ≡ old)
    ((why : WireFault) × IsNoFrame bytes why × Reports (Wire why) old.waiting new)

-- if memory runs out in its turn, the session holds nothing
pub record Empties (f : Frame) (old new : MemoryValue) : Type 0 where
  pub held : new.held ≡ None
  pub waiting : new.waiting ≡ still_waiting f old.waiting
  pub refused : new.has_refused ≡ old.has_refused

-- memory ran out: nothing has changed, or it came in the turn of a frame
abbrev pub BreaksOff : List ℕ → MemoryValue → MemoryValue → Type 0
BreaksOff bytes old new = (new ≡ old) ⊎ ((f : Frame) × Spells f bytes × Empties f old new)

-- ---- the maps that a link is under

-- the map is at least the map of the session, if it holds one, and at least the values that wait
pub record IsAboveLink (link : MemoryValue) (h : MapValue) : Type 0 where
  pub session : IfSome link.held (IsAboveSession h)
  pub waiting : AreFrames (λ f. IsAtLeast h.measures (measures_in f)) link.waiting
