use Rattle.pg_aiger_reader.proofs.Common.{◌≡◌, ◌-◌, ◌+◌, many_at, latch_at}
use Rattle.pg_aiger_reader.proofs.Loops.{with_front}
use Rattle.pg_aiger_reader.proofs.sections.latches.Given as goal

abbrev pub invariant-loop-i : goal.invariant-loop-i
invariant-loop-i l =
    with_front l.list.items (many_at (latch_at l.form) (l.count - l.i) (l.first + l.i) l.rest) ≡ many_at (latch_at l.form) l.count l.first l.bytes
