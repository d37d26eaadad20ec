use Rattle.pg_aiger_reader.proofs.Common.{◌≡◌, ◌-◌, ◌+◌, many_at, input_at}
use Rattle.pg_aiger_reader.proofs.Loops.{with_front}
use Rattle.pg_aiger_reader.proofs.sections.literals.Given as goal

abbrev pub invariant-loop-i : goal.invariant-loop-i
invariant-loop-i l =
    with_front l.list.items (many_at (input_at l.form) (l.count - l.i) (1 + l.i) l.rest) ≡ many_at (input_at l.form) l.count 1 l.bytes
