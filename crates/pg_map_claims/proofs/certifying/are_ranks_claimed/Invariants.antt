use Rattle.std.proofs.Common.{◌≡◌, ◌⊎◌, ℕ, ◌<◌, slice_index_or}
use Rattle.pg_map_claims.specs.Mirrors.Backing.{IsKnown, HasClaim}
use Rattle.pg_map_claims.proofs.certifying.are_ranks_claimed.Given as goal

abbrev pub invariant-loop-v : goal.invariant-loop-v
invariant-loop-v l =
    (v : ℕ) → v < l.v → (slice_index_or l.ranks v 0 ≡ 0) ⊎ (IsKnown l.known v ⊎ HasClaim l.claims (slice_index_or l.ranks v 0) v)
