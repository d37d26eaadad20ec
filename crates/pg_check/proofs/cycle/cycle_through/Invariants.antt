use Rattle.std.proofs.Common.{reverse}
use Rattle.pg_check.proofs.Trails.{IsWayBack}
use Rattle.pg_check.proofs.cycle.cycle_through.Given as goal

abbrev pub invariant-loop-place : goal.invariant-loop-place
invariant-loop-place l = IsWayBack l.game l.solution l.v l.trail.reached.items (reverse l.cycle.items) l.place

abbrev pub decreases-loop-place : goal.decreases-loop-place
decreases-loop-place l = l.place
