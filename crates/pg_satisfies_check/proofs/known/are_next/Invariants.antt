use Rattle.std.proofs.Common.{take}
use Rattle.pg_satisfies_check.specs.Mirrors.Known.{Follow}
use Rattle.pg_satisfies_check.proofs.known.are_next.Given as goal

abbrev pub invariant-loop-bit : goal.invariant-loop-bit
invariant-loop-bit l = Follow l.latches l.row (take l.bit-index l.bits)
