-- A frame of vertices that is being written.
use Rattle.std.specs.Prelude.{◌≡◌, ℕ, ◌<◌, ◌≤◌, Bool, List, [], ◌∷◌, ◌++◌, length, MatchBool}
use Rattle.std.specs.List.{flat_map}
use Rattle.pg_wire.specs.declared.frame.VertexLine.{VertexLine}
use Rattle.pg_wire.specs.declared.lines_writer.VerticesWriter.{VerticesWriter}
use Rattle.pg_wire.specs.Spelling.{line, body, longest}
use Rattle.pg_wire.specs.Lines.{frame_with}

-- the buffer has its contents from before the frame, room for the bytes before the lines, and then these lines
pub record AreWriting (w : VerticesWriter) (before : List ℕ) (ls : List VertexLine) (buffer : List ℕ) : Type 0 where
  pub start : w.start ≡ length before
  pub count : w.count ≡ length ls
  pub within : length (body (frame_with ls)) ≤ longest
  pub front : List ℕ
  pub front_size : length front ≡ 9
  pub whole : buffer ≡ before ++ (front ++ flat_map line ls)

-- one more line: it is appended to the others, or the frame would be too long with it, and then nothing has changed
abbrev pub IsLineAdded : Bool → VerticesWriter → VerticesWriter → List ℕ → List VertexLine → VertexLine → List ℕ → List ℕ → Type 0
IsLineAdded fits old new before ls l buffer buffer' =
    MatchBool fits (AreWriting new before (ls ++ l ∷ []) buffer')
    ((longest < length (body (frame_with (ls ++ l ∷ [])))) × (new ≡ old) × (buffer' ≡ buffer))
