use Rattle.std.proofs.Common.{take}
use Rattle.pg_world.proofs.Running.{HasRun}
use Rattle.pg_world.proofs.world.World.run.Given as goal

abbrev pub invariant-loop-place : goal.invariant-loop-place
invariant-loop-place l = HasRun l.fn.self l.self (take l.place l.events)
