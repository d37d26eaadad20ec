use Rattle.std.specs.Prelude.{All, Contains}
use Rattle.pg_satisfies.proofs.cone.marked_gates.Given as goal

abbrev pub invariant-loop-gate : goal.invariant-loop-gate
invariant-loop-gate l = All (Contains l.gates) l.found.items
