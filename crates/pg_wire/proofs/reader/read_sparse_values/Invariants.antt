use Rattle.pg_wire.proofs.Common.{◌≡◌, List, length, map, Measured, sparse_form, Sparse, IsLeft}
use Rattle.pg_wire.proofs.Left.{Made}
use Rattle.pg_wire.proofs.reader.read_sparse_values.Given as goal

abbrev pub invariant-each : goal.invariant-each
invariant-each l = record {
  kind : l.reader.kind ≡ Sparse;
  made : (ms : List Measured) → IsLeft l.initial.reader ms → Made sparse_form (map sparse_form ms) l.values.items l.reader;
}

abbrev pub decreases-each : goal.decreases-each
decreases-each l = length l.reader.bytes.now
