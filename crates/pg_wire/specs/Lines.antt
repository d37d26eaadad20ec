-- Lines of a frame of vertices, apart from the objects that hold them.
use Rattle.std.specs.Prelude.{ℕ, List}
use Rattle.pg_wire.specs.declared.frame.LineHead.{LineHead}
use Rattle.pg_wire.specs.declared.frame.VertexLine.{VertexLine}
use Rattle.pg_wire.specs.declared.frame.Frame.{Frame}
use Rattle.pg_wire.specs.declared.frame.Frame.TheVariants as frames

-- a line without its successors, and the line of a head and successors
abbrev pub head_of : VertexLine → LineHead
head_of l = record { vertex = l.vertex; priority = l.priority; owner = l.owner }

abbrev pub line_with : LineHead → List ℕ → VertexLine
line_with head successors = record { vertex = head.vertex; priority = head.priority; owner = head.owner; successors = successors }

-- the frame of these lines
abbrev pub frame_with : List VertexLine → Frame
frame_with ls = frames.Vertices (record { lines = ls })
