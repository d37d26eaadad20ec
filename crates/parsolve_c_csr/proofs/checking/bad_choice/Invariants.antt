use Rattle.std.proofs.Common.{◌<◌, ℕ}
use Rattle.parsolve_c_csr.specs.Solutions.{IsChosen}
use Rattle.parsolve_c_csr.proofs.checking.bad_choice.Given as goal

abbrev pub invariant-loop-v : goal.invariant-loop-v
invariant-loop-v l = (u : ℕ) → u < l.v → IsChosen l.game l.solution u
