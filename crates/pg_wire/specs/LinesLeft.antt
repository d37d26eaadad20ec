-- The lines of a frame of vertices that are still to be read.
use Rattle.std.specs.Prelude.{◌≡◌, ℕ, ◌<◌, List, [], ◌∷◌, Option, Some, None, All}
use Rattle.std.specs.List.{AllPairs, flat_map}
use Rattle.pg_wire.specs.declared.frame.LineHead.{LineHead}
use Rattle.pg_wire.specs.declared.frame.VertexLine.{VertexLine}
use Rattle.pg_wire.specs.declared.lines_reader.VerticesReader.{VerticesReader}
use Rattle.pg_wire.specs.Spelling.{line}
use Rattle.pg_wire.specs.Well.{IsVertexLine}
use Rattle.pg_wire.specs.Lines.{head_of}

-- these lines are left
pub record AreLeft (r : VerticesReader) (ls : List VertexLine) : Type 0 where
  pub lines : All IsVertexLine ls
  pub rising : AllPairs (λ l m. l.vertex < m.vertex) ls
  pub spelled : r.bytes.now ≡ flat_map line ls

-- the first of the lines that were left was read, and the others are left
abbrev pub IsNextLine : List VertexLine → VerticesReader → List ℕ → Option LineHead → Type 0
IsNextLine [] r successors answer = (answer ≡ None) × AreLeft r []
IsNextLine (l ∷ ls) r successors answer = (answer ≡ Some (head_of l)) × (successors ≡ l.successors) × AreLeft r ls
