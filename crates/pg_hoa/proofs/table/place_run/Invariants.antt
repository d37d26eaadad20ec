use Rattle.pg_hoa.proofs.Common.{◌≡◌, ◌*◌, List, length, Op, SpeaksOf, Stage, stage, way_step, Adds, at_letters, MayNumber, IsPlaced}
use Rattle.pg_hoa.proofs.table.place_run.Given as goal

-- the letters of the blocks so far
abbrev pub invariant-loop-block : goal.invariant-loop-block
invariant-loop-block l = record {
  adds : (label : List Op) (t : Stage) → SpeaksOf label l.run l.words
      → Adds l.way.shape (at_letters l.way.row.first (l.run * 16 * l.way.row.width) label (way_step l.way)) t (stage l.initial.filling)
      → Adds l.way.shape (at_letters l.way.row.first (l.block * l.way.row.width) label (way_step l.way)) t (stage l.filling);
  many : length l.filling.slots.items ≡ length l.initial.filling.slots.items;
  placed : IsPlaced (stage l.filling) l.way;
  known : MayNumber (stage l.filling) l.number (way_step l.way);
}
