use Rattle.pg_text.proofs.Common.{arith}
use Rattle.pg_text.proofs.Numbers.{digit_is, no_digit_is}
use Rattle.pg_text.proofs.tokens.digit.Goals as goal

pub returns-clause-digit : goal.returns-clause-digit
returns-clause-digit c = digit_is c.args.byte _ (omega arith) (omega arith)

pub returns-clause-other : goal.returns-clause-other
returns-clause-other c = no_digit_is c.args.byte _ (omega arith) (omega arith)
