use Rattle.pg_check.proofs.Common.{◌-◌, length, IsExplored}
use Rattle.pg_check.proofs.cycle.explore.Given as goal

abbrev pub invariant-loop-at : goal.invariant-loop-at
invariant-loop-at l =
    IsExplored l.game l.solution l.v l.search.reached.items l.search.before.items l.search.is_reached.items l.at

abbrev pub decreases-loop-at : goal.decreases-loop-at
decreases-loop-at l = length l.game - l.at
