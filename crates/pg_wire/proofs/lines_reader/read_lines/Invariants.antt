use Rattle.pg_wire.proofs.Common.{List, length, VertexLine, AreLeft}
use Rattle.pg_wire.proofs.Lines.{Collected}
use Rattle.pg_wire.proofs.lines_reader.read_lines.Given as goal

abbrev pub invariant-each : goal.invariant-each
invariant-each l = record {
  read : (ls : List VertexLine) → AreLeft l.initial.reader ls → Collected ls l.lines.items l.reader;
}

abbrev pub decreases-each : goal.decreases-each
decreases-each l = length l.reader.bytes.now
