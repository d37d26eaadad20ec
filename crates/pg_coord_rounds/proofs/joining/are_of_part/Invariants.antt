use Rattle.pg_coord_rounds.proofs.Common.{◌≡◌, List, length, All, IsLeft, Measured, IsOfPart}
use Rattle.pg_coord_rounds.proofs.Joins.{HasRead}
use Rattle.pg_coord_rounds.proofs.joining.are_of_part.Given as goal

abbrev pub invariant-each : goal.invariant-each
invariant-each l = record {
  size : length l.row ≡ l.values.width;
  seen : (ms : List Measured) → IsLeft l.fn.values ms → HasRead (All (IsOfPart l.bounds l.cut l.worker)) ms l.values;
}

abbrev pub decreases-each : goal.decreases-each
decreases-each l = length l.values.bytes.now
