use Rattle.parsolve_c_csr.specs.Mirrors.Writes.{AreRead}
use Rattle.parsolve_c_csr.proofs.solution.read.Given as goal

abbrev pub invariant-loop-v : goal.invariant-loop-v
invariant-loop-v l = AreRead l.solution l.winners l.strategy l.v
