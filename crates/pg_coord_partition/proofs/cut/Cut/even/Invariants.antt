use Rattle.std.proofs.Common.{◌≡◌, ℕ, ◌<◌, ◌≤◌, length, get_or}
use Rattle.std.specs.Prelude.{All}
use Rattle.pg_coord_partition.specs.Cuts.{even_worker}
use Rattle.pg_coord_partition.proofs.cut.Cut.even.Given as goal

abbrev pub invariant-loop-v : goal.invariant-loop-v
invariant-loop-v l = record {
  size : length l.numbers.items ≡ l.v;
  each : (k : ℕ) → k < l.v → get_or l.numbers.items k 0 ≡ even_worker l.vertices l.workers k;
  within : All (λ n. n ≤ l.workers) l.numbers.items;
}
