-- What the code checks about claims.
use Rattle.std.specs.Prelude.{◌≡◌, ◌⊎◌, ℕ, ◌<◌, ◌≤◌, Bool, true, false, List, length, slice_index, slice_index_or, Option, IsSome}
use Rattle.pg_arena.specs.Games.{opponent}
use Rattle.pg_map.specs.Lines.{Line, line_at}
use Rattle.pg_map.specs.Maps.{SomeOrAll}
use Rattle.pg_check_order.specs.Orders.{span_at}
use Rattle.pg_map_ranks.specs.Ladders.{LadderValue, IsJustifiedFrom}
use Rattle.pg_map_claims.specs.declared.claim.Claim.{Claim}
use Rattle.pg_map_claims.specs.declared.claim.Claims.{Claims}

-- claim k
abbrev pub claim_at : Claims → ℕ → Claim
claim_at x k = slice_index_or x.claims.items k (record { vertex = 0; rank = 0; place = 0 })

-- w has a claim of at least a rank, and it stands at the place
pub record IsClaimFrom (x : Claims) (low w place : ℕ) : Type 0 where
  pub claim : ℕ
  pub among : claim < length x.claims.items
  pub of_vertex : (claim_at x claim).vertex ≡ w
  pub high : low ≤ (claim_at x claim).rank
  pub stands : (claim_at x claim).place ≡ place

-- w has a claim of at least a rank that stands before the end
pub record HasClaimBefore (x : Claims) (low end w : ℕ) : Type 0 where
  pub place : ℕ
  pub is : IsClaimFrom x low w place
  pub before : place < end

-- w is known to have top
abbrev pub IsKnown : List Bool → ℕ → Type 0
IsKnown known w = slice_index_or known w false ≡ true

-- w needs no claim, is known to have top, or has a claim that stands before the end
abbrev pub Backs : Claims → List Bool → ℕ → ℕ → ℕ → Type 0
Backs x known low end w = (low ≡ 0) ⊎ (IsKnown known w ⊎ HasClaimBefore x low end w)

-- what is checked about a claim
pub record IsGoodClaim (lines : ℕ → Option Line) (ladder : LadderValue) (x : Claims) (known : List Bool) (c : Claim) : Type 0 where
  pub held : IsSome (lines c.vertex)
  pub stands : (span_at x.spans.items c.place).priority ≡ (line_at lines c.vertex).priority
  pub low : ℕ
  pub justified : IsJustifiedFrom ladder.bounds ladder.steps (line_at lines c.vertex).priority c.rank low
  pub backed : SomeOrAll (opponent (line_at lines c.vertex).owner) (Backs x known low (span_at x.spans.items c.place).end)
      (line_at lines c.vertex).successors

abbrev pub AreGoodClaims : (ℕ → Option Line) → LadderValue → Claims → List Bool → Type 0
AreGoodClaims lines ladder x known = (k : ℕ) → k < length x.claims.items → IsGoodClaim lines ladder x known (claim_at x k)

-- v has a claim of at least a rank
pub record HasClaim (x : Claims) (rank v : ℕ) : Type 0 where
  pub place : ℕ
  pub is : IsClaimFrom x rank v place

-- each vertex has the rank 0, is known to have top, or has a claim of at least its rank
abbrev pub AreRanksClaimed : Claims → List Bool → List ℕ → Type 0
AreRanksClaimed x known ranks =
    (v : ℕ) → v < length ranks → (slice_index ranks v ≡ 0) ⊎ (IsKnown known v ⊎ HasClaim x (slice_index ranks v) v)
