use Rattle.std.proofs.Common.{◌≡◌, map}
use Rattle.std.specs.List.{range_with_len}
use Rattle.parsolve_c_csr.specs.Games.{arrays_of, vertex_of}
use Rattle.parsolve_c_csr.proofs.build.built.Given as goal

abbrev pub invariant-loop-v : goal.invariant-loop-v
invariant-loop-v l = l.builder ≡ map (vertex_of (arrays_of l.arrays)) (range_with_len 0 l.v)
