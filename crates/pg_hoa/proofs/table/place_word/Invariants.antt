use Rattle.pg_hoa.proofs.Common.{◌≤◌, ◌-◌, stage, way_step, Adds, at_word, MayNumber}
use Rattle.pg_hoa.proofs.table.place_word.Given as goal

abbrev pub invariant-bits : goal.invariant-bits
invariant-bits l = record {
  adds : Adds l.way.shape (at_word l.first l.at l.word (way_step l.way)) (stage l.initial.filling) (stage l.filling);
  known : MayNumber (stage l.filling) l.number (way_step l.way);
  within : l.at ≤ l.width;
}

abbrev pub decreases-bits : goal.decreases-bits
decreases-bits l = l.width - l.at
