-- The maps that are above a session, given by the frames that it took and by its state; and bytes that are frames.
use Rattle.std.specs.Prelude.{◌≡◌, ℕ, List, length, All}
use Rattle.std.specs.List.{flat_map}
use Rattle.pg_map.specs.Maps.{MapValue, MapAtMost, IsMap, IsClosed}
use Rattle.pg_wire.specs.declared.frame.Setup.{Setup}
use Rattle.pg_wire.specs.declared.frame.Frame.{Frame}
use Rattle.pg_wire.specs.Spelling.{spelling}
use Rattle.pg_wire.specs.Bytes.{Spells}
use Rattle.pg_coord_partition.specs.Frames.{IsAtLeast, lines_in, measures_in, IsClosedAt}
use Rattle.pg_worker.specs.Workers.{part_line}
use Rattle.pg_worker.specs.Turns.{SessionValue}

-- the bytes are frames with this property, one after another
pub record AreFrames (P : Frame → Type 0) (bytes : List ℕ) : Type 0 where
  pub fs : List Frame
  pub spelled : bytes ≡ flat_map spelling fs
  pub each : All (λ f. Spells f (spelling f) × P f) fs

-- the map is over the bounds and vertices of a set-up, closed at each vertex in the frames after it, and at least each
-- value in them
pub record IsAboveFrames (s : Setup) (fs : List Frame) (h : MapValue) : Type 0 where
  pub bounds : h.bounds ≡ s.bounds
  pub map : IsMap s.bounds s.vertices h.measures
  pub closed : All (λ f. All (IsClosedAt h) (lines_in f)) fs
  pub above : All (λ f. IsAtLeast h.measures (measures_in f)) fs

-- the map is over the session's bounds and vertices, closed at its lines, and at least its map
pub record IsAboveSession (h : MapValue) (held : SessionValue) : Type 0 where
  pub bounds : h.bounds ≡ held.worker.bounds
  pub map : IsMap held.worker.bounds (length held.worker.map) h.measures
  pub closed : IsClosed held.worker.bounds (part_line held.worker.lines) h.measures
  pub above : MapAtMost held.worker.map h.measures
