use Rattle.pg_aiger_reader.proofs.Common.{◌≡◌, ◌-◌, line_at}
use Rattle.pg_aiger_reader.proofs.Loops.{with_front}
use Rattle.pg_aiger_reader.proofs.number.line.Given as goal

abbrev pub invariant-loop : goal.invariant-loop
invariant-loop l = with_front l.numbers.items (line_at (l.most - l.counter) l.rest) ≡ line_at l.most l.bytes
