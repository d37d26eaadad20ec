use Rattle.pg_map_ranks.proofs.Common.{ℕ, ◌<◌, slice_index_or, rank_at, IsUnder}
use Rattle.pg_map_ranks.proofs.under.first_under.Given as goal

abbrev pub invariant-loop-w : goal.invariant-loop-w
invariant-loop-w l = (k d : ℕ) → k < l.w-index → IsUnder l.high (rank_at l.ranks (slice_index_or l.vertices k d)) → ⊥
