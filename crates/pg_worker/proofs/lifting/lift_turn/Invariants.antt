use Rattle.pg_worker.proofs.Common.{◌≡◌, KeepsLines, AreListedLifts, part_line}
use Rattle.pg_worker.proofs.lifting.lift_turn.Given as goal

abbrev pub invariant-loop : goal.invariant-loop
invariant-loop l = record {
  same : KeepsLines l.initial.lifter l.lifter;
  room : l.lifted.count ≡ l.initial.lifted.count;
  listed : AreListedLifts l.initial.lifter.map.bounds (part_line l.initial.lifter.lines)
      l.initial.lifter.map.measures l.lifter.map.measures l.lifted.vertices (λ n. n ≡ l.counter);
}
