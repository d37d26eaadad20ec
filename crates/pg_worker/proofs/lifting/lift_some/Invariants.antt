use Rattle.pg_worker.proofs.Common.{◌≡◌, length, KeepsLines, AreLifts, part_line}
use Rattle.pg_worker.proofs.lifting.lift_some.Given as goal

abbrev pub invariant-loop : goal.invariant-loop
invariant-loop l = record {
  same : KeepsLines l.initial.lifter l.lifter;
  lifts : AreLifts l.initial.lifter.map.bounds (part_line l.initial.lifter.lines)
      l.initial.lifter.map.measures l.updates.items l.lifter.map.measures;
  lifted : length l.updates.items ≡ l.counter;
}
