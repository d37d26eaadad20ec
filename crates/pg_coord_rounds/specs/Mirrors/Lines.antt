-- Lines of a worker's part that are written into a frame.
use Rattle.std.specs.Prelude.{◌≡◌, ℕ, ◌<◌, List, [], length, All, AllPairs}
use Rattle.pg_arena.specs.Games.{vertex_at}
use Rattle.pg_map.specs.Lines.{vertex_line}
use Rattle.pg_wire.specs.declared.frame.VertexLine.{VertexLine}
use Rattle.pg_wire.specs.declared.lines_writer.VerticesWriter.{VerticesWriter}
use Rattle.pg_wire.specs.Bytes.{Spells}
use Rattle.pg_wire.specs.Well.{IsVertexLine}
use Rattle.pg_wire.specs.Lines.{frame_with}
use Rattle.pg_wire.specs.LinesWritten.{AreWriting}
use Rattle.pg_coord_partition.specs.Frames.{told_line}
use Rattle.pg_coord_rounds.specs.Mirrors.Tasks.{TaskValue}

-- the line of a vertex of the game below `next`
pub record IsLineOf (t : TaskValue) (next : ℕ) (l : VertexLine) : Type 0 where
  pub vertex : l.vertex < length t.game
  pub below : l.vertex < next
  pub well : IsVertexLine l
  pub line : told_line l ≡ vertex_line (vertex_at t.game l.vertex)

-- lines of vertices below `next`, by rising vertex
pub record AreLines (t : TaskValue) (next : ℕ) (ls : List VertexLine) : Type 0 where
  pub lines : All (IsLineOf t next) ls
  pub rising : AllPairs (λ l m. l.vertex < m.vertex) ls

-- a frame that is being written has such lines, and nothing comes before it
pub record AreWritten (t : TaskValue) (w : VerticesWriter) (next : ℕ) (ls : List VertexLine) (buffer : List ℕ) : Type 0 where
  pub writing : AreWriting w [] ls buffer
  pub lines : AreLines t next ls

-- the bytes spell a frame of such lines
pub record SpellsLines (t : TaskValue) (bytes : List ℕ) : Type 0 where
  pub next : ℕ
  pub lines : List VertexLine
  pub spelled : Spells (frame_with lines) bytes
  pub of_game : AreLines t next lines
