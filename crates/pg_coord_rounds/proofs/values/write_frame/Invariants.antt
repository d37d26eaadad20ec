use Rattle.pg_coord_rounds.proofs.Common.{◌≡◌, List, length, Measured, IsWritten}
use Rattle.pg_coord_rounds.proofs.values.write_frame.Given as goal

abbrev pub invariant-loop-count : goal.invariant-loop-count
invariant-loop-count l = record {
  kind : l.writer.kind ≡ l.fn.to.kind;
  width : l.writer.width ≡ length l.map.bounds;
  measures : List Measured;
  written : IsWritten l.map l.writer l.next measures l.out.items;
}
