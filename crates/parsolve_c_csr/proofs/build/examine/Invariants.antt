use Rattle.std.proofs.Common.{ℕ, ◌<◌}
use Rattle.parsolve_c_csr.specs.Games.{arrays_of, IsRow}
use Rattle.parsolve_c_csr.proofs.build.examine.Given as goal

abbrev pub invariant-loop-v : goal.invariant-loop-v
invariant-loop-v l = (u : ℕ) → u < l.v → IsRow (arrays_of l.arrays) u
