use Rattle.pg_text.proofs.Common.{arith, decimal_digit}
use Rattle.pg_text.proofs.solution_layout.write_winner.Goals as goal

pub returns-in-Even : goal.returns-in-Even
returns-in-Even g c = rw (c.in-Even.is, decimal_digit 0 (omega arith)) c.write_all.ensures.bytes

pub returns-in-Odd : goal.returns-in-Odd
returns-in-Odd g c = rw (c.in-Odd.is, decimal_digit 1 (omega arith)) c.write_all-in-Odd.ensures.bytes
