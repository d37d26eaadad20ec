use Rattle.std.proofs.Common.{true}
use Rattle.pg_satisfies_check.specs.Mirrors.Known.{Learns}
use Rattle.pg_satisfies_check.specs.Certificates.{AreBits}
use Rattle.pg_satisfies_check.proofs.known.note_bits.Given as goal

abbrev pub invariant-loop-bit : goal.invariant-loop-bit
invariant-loop-bit l = Learns (λ u. AreBits l.latches u l.bits) l.initial.row true l.row
