use Rattle.pg_coord_rounds.proofs.Common.{◌≡◌, List, length, IsLeft, Measured, Joins, Moves}
use Rattle.pg_coord_rounds.proofs.Joins.{HasRead}
use Rattle.pg_coord_rounds.proofs.joining.join_read.Given as goal

abbrev pub invariant-each : goal.invariant-each
invariant-each l = record {
  size : length l.row ≡ l.values.width;
  moves : Moves l.fn.coordinator l.coordinator;
  joined : (ms : List Measured) → IsLeft l.fn.values ms
      → HasRead (λ front. Joins l.fn.coordinator.map.measures front l.coordinator.map.measures) ms l.values;
}

abbrev pub decreases-each : goal.decreases-each
decreases-each l = length l.values.bytes.now
