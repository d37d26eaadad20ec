use Rattle.std.proofs.Common.{◌≡◌, take}
use Rattle.pg_coord_partition.proofs.telling.fill_numbers.Given as goal

abbrev pub invariant-loop-v : goal.invariant-loop-v
invariant-loop-v l = l.numbers.items ≡ take l.v-index l.vertices
