use Rattle.pg_hoa.proofs.Common.{arith, nat_tests, map}
use Rattle.pg_hoa.specs.Outputs.{is_named}
use Rattle.pg_hoa.proofs.NamedOutputs.{passing_more}
use Rattle.pg_hoa.proofs.outputs.numbers_of.Goals as goal

pub loop-a-preserved : goal.loop-a-preserved
loop-a-preserved c = grind (
  arith,
  nat_tests,
  passing_more (is_named (map (λ name. name.now) c.args.names.now) c.args.automaton.now) c.loop-a.a,
)
