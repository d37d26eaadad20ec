use Rattle.pg_solver.proofs.Common.{◌≡◌, map_weight, IsRaised}
use Rattle.pg_solver.proofs.lifting.lifted.Given as goal

abbrev pub invariant-lifts : goal.invariant-lifts
invariant-lifts g l = record {
  lines : l.lifter.lines ≡ l.initial.lifter.lines;
  raised : IsRaised (g.G.Lines.line l.initial.lifter.lines) l.initial.lifter.map l.lifter.map;
}

abbrev pub decreases-lifts : goal.decreases-lifts
decreases-lifts g l = map_weight l.initial.lifter.map.bounds l.lifter.map.measures
