use Rattle.pg_wire.proofs.Common.{◌≡◌, List, length, map, Measured, dense_value, Dense, IsLeft}
use Rattle.pg_wire.proofs.Left.{Made}
use Rattle.pg_wire.proofs.reader.read_values.Given as goal

abbrev pub invariant-each : goal.invariant-each
invariant-each l = record {
  kind : l.reader.kind ≡ Dense;
  made : (ms : List Measured) → IsLeft l.initial.reader ms → Made dense_value (map dense_value ms) l.values.items l.reader;
}

abbrev pub decreases-each : goal.decreases-each
decreases-each l = length l.reader.bytes.now
