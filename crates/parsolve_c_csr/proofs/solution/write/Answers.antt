use Rattle.std.proofs.Common.{arith}
use Rattle.parsolve_c_csr.proofs.Solved.{written_all, players_all}
use Rattle.parsolve_c_csr.proofs.solution.write.Goals as goal

pub returns-clause-solution : goal.returns-clause-solution
returns-clause-solution c =
    written_all c.args.solution.now c.loop-v.winners c.loop-v.strategy c.loop-v.v c.loop-v.invariant (omega (arith, c.len-v-end.ensures))

pub returns-clause-players : goal.returns-clause-players
returns-clause-players c =
    players_all c.args.solution.now c.loop-v.winners c.loop-v.strategy c.loop-v.v c.loop-v.invariant (omega (arith, c.len-v-end.ensures))
