use Rattle.std.proofs.Common.{ℕ, ◌<◌, slice_index_or}
use Rattle.pg_map_claims.specs.Mirrors.Backing.{Backs}
use Rattle.pg_map_claims.proofs.backing.all_back.Given as goal

abbrev pub invariant-loop-w : goal.invariant-loop-w
invariant-loop-w l = (k d : ℕ) → k < l.w-index → Backs l.claims l.known l.low l.end (slice_index_or l.vertices k d)
