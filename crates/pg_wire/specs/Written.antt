-- A frame of measures that is being written.
use Rattle.std.specs.Prelude.{◌≡◌, ℕ, ◌<◌, ◌≤◌, Bool, List, [], ◌∷◌, ◌++◌, length, MatchBool}
use Rattle.std.specs.List.{flat_map}
use Rattle.pg_wire.specs.declared.writer.ValuesWriter.{ValuesWriter}
use Rattle.pg_wire.specs.Spelling.{body, longest}
use Rattle.pg_wire.specs.Measured.{Measured, spelled_as, frame_of}

-- the buffer has its contents from before the frame, room for the bytes before the measures, and then these measures
pub record IsWriting (w : ValuesWriter) (before : List ℕ) (ms : List Measured) (buffer : List ℕ) : Type 0 where
  pub start : w.start ≡ length before
  pub count : w.count ≡ length ms
  pub within : length (body (frame_of w.kind w.width ms)) ≤ longest
  pub front : List ℕ
  pub front_size : length front ≡ 13
  pub whole : buffer ≡ before ++ (front ++ flat_map (spelled_as w.kind) ms)

-- one more measure: it is appended to the others, or the frame would be too long with it, and then nothing has changed
abbrev pub IsAdded : Bool → ValuesWriter → ValuesWriter → List ℕ → List Measured → Measured → List ℕ → List ℕ → Type 0
IsAdded fits old new before ms m buffer buffer' =
    MatchBool fits (IsWriting new before (ms ++ m ∷ []) buffer')
    ((longest < length (body (frame_of old.kind old.width (ms ++ m ∷ [])))) × (new ≡ old) × (buffer' ≡ buffer))
