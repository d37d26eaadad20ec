use Rattle.pg_text.proofs.Common.{arith, nat_tests, decimal_digit}
use Rattle.pg_text.proofs.Printing.{zeros_text}
use Rattle.pg_text.proofs.writing.write_comma_zeros.Goals as goal

pub returns : goal.returns
returns g c = grind (arith, nat_tests, decimal_digit 0 (omega arith), zeros_text c.args.count 32 c.requires)
