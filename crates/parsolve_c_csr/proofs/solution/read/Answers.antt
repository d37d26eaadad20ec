use Rattle.std.proofs.Common.{arith}
use Rattle.parsolve_c_csr.proofs.Solved.{read_all}
use Rattle.parsolve_c_csr.proofs.solution.read.Goals as goal

pub returns : goal.returns
returns c =
    read_all c.loop-v.solution c.args.winners.now c.args.strategy.now c.loop-v.v c.loop-v.invariant
    (omega (arith, c.len-v-end.ensures.value, c.requires.winners))
