use Rattle.pg_worker.proofs.Common.{◌≡◌, List, length, VertexLine, AreLeft}
use Rattle.pg_worker.proofs.Growing.{Added}
use Rattle.pg_worker.proofs.lines.add_read.Given as goal

abbrev pub invariant-each : goal.invariant-each
invariant-each l = record {
  bounds : l.worker.bounds ≡ l.fn.worker.bounds;
  added : (ls : List VertexLine) → AreLeft l.fn.lines ls → Added l.fn.worker ls l.worker l.lines;
}

abbrev pub decreases-each : goal.decreases-each
decreases-each l = length l.lines.bytes.now
