use Rattle.std.proofs.Common.{true}
use Rattle.pg_satisfies_check.specs.Mirrors.Known.{Learns}
use Rattle.pg_satisfies_check.specs.Mirrors.Lassos.{AreTaken}
use Rattle.pg_satisfies_check.proofs.link.note_latches.Given as goal

abbrev pub invariant-loop-place : goal.invariant-loop-place
invariant-loop-place l = Learns (λ u. AreTaken l.latches l.values u) l.fn.row true l.row
