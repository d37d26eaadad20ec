use Rattle.pg_hoa.proofs.Common.{◌*◌, min, stage, way_step, Adds, at_letters, MayNumber}
use Rattle.pg_hoa.proofs.table.add_edge.Given as goal

-- the letters of the runs so far
abbrev pub invariant-loop-run : goal.invariant-loop-run
invariant-loop-run l = record {
  adds : Adds l.way.shape (at_letters l.way.row.first (min l.way.row.blocks (l.run * 16) * l.way.row.width) l.label (way_step l.way))
      (stage l.initial.filling) (stage l.filling);
  known : MayNumber (stage l.filling) l.number (way_step l.way);
}
