use Rattle.pg_check.proofs.Searches.{IsExploring}
use Rattle.pg_check.proofs.cycle.Exploration.visit.Given as goal

abbrev pub invariant-loop-w : goal.invariant-loop-w
invariant-loop-w l =
    IsExploring l.game l.solution l.v l.self.reached.items l.self.before.items l.self.is_reached.items
    l.initial.self.reached.items l.w-items l.at l.w-index
