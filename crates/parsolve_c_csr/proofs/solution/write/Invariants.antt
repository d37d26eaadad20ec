use Rattle.parsolve_c_csr.specs.Mirrors.Writes.{AreWritten}
use Rattle.parsolve_c_csr.proofs.solution.write.Given as goal

abbrev pub invariant-loop-v : goal.invariant-loop-v
invariant-loop-v l = AreWritten l.solution l.winners l.strategy l.v
