use Rattle.std.proofs.Common.{of_calls}
use Rattle.pg_text.proofs.Common.{arith, rules, decimal_digit}
use Rattle.pg_text.proofs.solution_layout.add_winner.Goals as goal

pub returns-in-Even : goal.returns-in-Even
returns-in-Even c = rw (c.in-Even.is, decimal_digit 0 (omega arith)) (search (rules, of_calls))

pub returns-in-Odd : goal.returns-in-Odd
returns-in-Odd c = rw (c.in-Odd.is, decimal_digit 1 (omega arith)) (search (rules, of_calls))
