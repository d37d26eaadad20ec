-- The contents of frames: lines of a game's vertices, and measures that are joined with a map.
use Rattle.std.proofs.Common.{zero, suc}
use Rattle.std.specs.Prelude.{◌≡◌, ℕ, ◌==◌, List, [], length, All, if◌then◌else◌}
use Rattle.pg_arena.specs.declared.player.Player.{Player}
use Rattle.pg_arena.specs.declared.player.Player.TheVariants.{Even, Odd}
use Rattle.pg_measure.specs.Measures.{MeasureValue, AtMost}
use Rattle.pg_map.specs.Lines.{Line, line_of, only}
use Rattle.pg_map.specs.Maps.{MapValue, measure_at, MapAtMost, IsServed}
use Rattle.pg_wire.specs.declared.frame.VertexLine.{VertexLine}
use Rattle.pg_wire.specs.declared.frame.Frame.{Frame}
use Rattle.pg_wire.specs.declared.frame.Frame.TheVariants as frames
use Rattle.pg_wire.specs.declared.kind.ValueKind.{ValueKind}
use Rattle.pg_wire.specs.declared.kind.ValueKind.TheVariants.{Dense, Sparse}
use Rattle.pg_wire.specs.Measured.{Measured, told_values, told_sparse}

-- ---- vertices

-- the player with this number
abbrev pub player : ℕ → Player
player zero = Even
player (suc n) = Odd

-- a vertex's line as it is in a frame
abbrev pub told_line : VertexLine → Line
told_line l = line_of l.priority (player l.owner) l.successors

-- the lines in a frame
abbrev pub lines_in : Frame → List VertexLine
lines_in (frames.Vertices v) = v.lines
lines_in f = []

-- the map is closed at the vertex of a line
abbrev pub IsClosedAt : MapValue → VertexLine → Type 0
IsClosedAt h l = IsServed h.bounds (only (told_line l)) h.measures l.vertex

-- ---- measures

-- values go as Values under version 1, and as Sparse under version 2
abbrev pub kind_of : ℕ → ValueKind
kind_of version = if version == 2 then Sparse else Dense

-- the measures in a frame
abbrev pub measures_in : Frame → List Measured
measures_in (frames.Values v) = told_values v.values
measures_in (frames.Sparse s) = told_sparse s.width s.values
measures_in f = []

-- the map is at least each of the measures
abbrev pub IsAtLeast : List MeasureValue → List Measured → Type 0
IsAtLeast f ms = All (λ m. AtMost m.1 (measure_at f m.0)) ms

-- g is the least map that is at least f and each of the measures
pub record Joins (f : List MeasureValue) (ms : List Measured) (g : List MeasureValue) : Type 0 where
  pub size : length g ≡ length f
  pub above : MapAtMost f g
  pub each : IsAtLeast g ms
  pub least : (h : List MeasureValue) → MapAtMost f h → IsAtLeast h ms → MapAtMost g h
