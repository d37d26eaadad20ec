use Rattle.pg_worker.proofs.Common.{◌≡◌, ◌<◌, ◌≤◌, ℕ, length, map, take, drop, get_or, VertexLine, told_line, with_lines, IsNext}
use Rattle.pg_worker.proofs.adding.add_lines.Given as goal

abbrev pub invariant-loop-line : goal.invariant-loop-line
invariant-loop-line l = record {
  size : length l.lifter.lines ≡ length l.initial.lifter.lines;
  map_is : l.lifter.map ≡ l.initial.lifter.map;
  next : IsNext l.lifter.lines l.next;
  above : (j : ℕ) (d : VertexLine) → l.line-index ≤ j → j < length l.lines → l.next ≤ (get_or l.lines j d).vertex;
  lines : l.lifter.lines ≡ with_lines l.initial.lifter.lines (take l.line-index l.lines);
  held : l.held.items ≡ map told_line (drop l.line-index l.lines);
}
