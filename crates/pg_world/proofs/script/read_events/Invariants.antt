use Rattle.std.proofs.Common.{length}
use Rattle.pg_world.proofs.ScriptReads.{Reading}
use Rattle.pg_world.proofs.script.read_events.Given as goal

abbrev pub invariant-lines : goal.invariant-lines
invariant-lines l = Reading l.bytes l.game l.events.items l.rest

abbrev pub decreases-lines : goal.decreases-lines
decreases-lines l = length l.rest
