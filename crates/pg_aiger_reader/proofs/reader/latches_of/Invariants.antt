use Rattle.pg_aiger_reader.proofs.Common.{◌≡◌, drop, latches_at, reset_fault}
use Rattle.pg_aiger_reader.proofs.Latches.{with_latches}
use Rattle.pg_aiger_reader.proofs.reader.latches_of.Given as goal

abbrev pub invariant-loop-position : goal.invariant-loop-position
invariant-loop-position l =
    (with_latches l.latches.items (latches_at (drop l.position l.lines)) ≡ latches_at l.lines)
    × (reset_fault l.position (drop l.position l.lines) ≡ reset_fault 0 l.lines)
