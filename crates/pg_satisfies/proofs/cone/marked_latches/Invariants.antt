use Rattle.std.specs.Prelude.{All, Contains}
use Rattle.pg_satisfies.proofs.cone.marked_latches.Given as goal

abbrev pub invariant-loop-latch : goal.invariant-loop-latch
invariant-loop-latch l = All (Contains l.latches) l.found.items
