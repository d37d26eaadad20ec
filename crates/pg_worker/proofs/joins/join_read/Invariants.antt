use Rattle.pg_worker.proofs.Common.{◌≡◌, List, length, IsLeft, Measured}
use Rattle.pg_worker.proofs.Taking.{Joined}
use Rattle.pg_worker.proofs.joins.join_read.Given as goal

abbrev pub invariant-each : goal.invariant-each
invariant-each l = record {
  size : length l.row ≡ l.values.width;
  bounds : l.worker.bounds ≡ l.fn.worker.bounds;
  joined : (ms : List Measured) → IsLeft l.fn.values ms → Joined l.fn.worker ms l.worker l.values;
}

abbrev pub decreases-each : goal.decreases-each
decreases-each l = length l.values.bytes.now
