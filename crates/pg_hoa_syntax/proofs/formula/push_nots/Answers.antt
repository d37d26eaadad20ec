use Rattle.pg_hoa_syntax.proofs.Common.{arith, nat_tests}
use Rattle.pg_hoa_syntax.proofs.Turning.{not_more}
use Rattle.pg_hoa_syntax.proofs.formula.push_nots.Goals as goal

pub loop-preserved : goal.loop-preserved
loop-preserved c = grind (arith, nat_tests, not_more c.loop.counter c.args.ops.items)
