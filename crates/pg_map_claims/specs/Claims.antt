-- Claims: measures that each closed map is said to have at least, at single vertices, and what shows that it does.
use Rattle.std.specs.Prelude.{◌≡◌, ℕ, ◌<◌, ◌⊎◌, Bool, List, length, Option, IsSome, IsTrue}
use Rattle.pg_arena.specs.declared.player.Player.TheVariants.{Odd}
use Rattle.pg_arena.specs.Games.{opponent}
use Rattle.pg_measure.specs.Measures.{BoundList, MeasureValue, AtMost}
use Rattle.pg_map.specs.Lines.{Line, line_at}
use Rattle.pg_map.specs.Maps.{measure_at, SomeOrAll}
use Rattle.pg_check_order.specs.Orders.{WinsCycles}
use Rattle.pg_map_ranks.specs.Ladders.{IsJustified}

-- Claims have the numbers below `count`. Claim k says that each closed map has at least `measure k` at `vertex k`. Claim k may be
-- backed by claim j where `leads k j`.
pub record ClaimSet : Type 0 where
  pub count : ℕ
  pub vertex : ℕ → ℕ
  pub measure : ℕ → MeasureValue
  pub leads : ℕ → ℕ → Bool

abbrev pub claim_line : (ℕ → Option Line) → ClaimSet → ℕ → Line
claim_line lines claims k = line_at lines (claims.vertex k)

-- claim k leads to claim j
pub record LeadsTo (claims : ClaimSet) (k j : ℕ) : Type 0 where
  pub from : k < claims.count
  pub to : j < claims.count
  pub may : IsTrue (claims.leads k j)

-- what claim k claims is justified by n
abbrev pub IsClaimJustified : BoundList → (ℕ → Option Line) → ClaimSet → ℕ → MeasureValue → Type 0
IsClaimJustified bounds lines claims k n = IsJustified bounds (claim_line lines claims k).priority (claims.measure k) n

-- claim k leads to a claim of w that justifies it
pub record IsBackedByClaim (bounds : BoundList) (lines : ℕ → Option Line) (claims : ClaimSet) (k w : ℕ) : Type 0 where
  pub claim : ℕ
  pub leads : LeadsTo claims k claim
  pub of_vertex : claims.vertex claim ≡ w
  pub justifies : IsClaimJustified bounds lines claims k (claims.measure claim)

-- w backs claim k: what the map g has at w justifies it, or a claim of w does
abbrev pub IsBackedBy : BoundList → (ℕ → Option Line) → List MeasureValue → ClaimSet → ℕ → ℕ → Type 0
IsBackedBy bounds lines g claims k w =
    IsClaimJustified bounds lines claims k (measure_at g w) ⊎ IsBackedByClaim bounds lines claims k w

-- Claims are backed over a map g, which is at most every map in question: each is of a vertex that has a line, and is backed by all
-- successors of the vertex if Even owns it, and by some successor if Odd does; and Odd wins the cycles of claims that lead to one
-- another.
pub record AreBacked (bounds : BoundList) (lines : ℕ → Option Line) (g : List MeasureValue) (claims : ClaimSet) : Type 0 where
  pub held : (k : ℕ) → k < claims.count → IsSome (lines (claims.vertex k))
  pub backed : (k : ℕ) → k < claims.count → SomeOrAll (opponent (claim_line lines claims k).owner)
      (IsBackedBy bounds lines g claims k) (claim_line lines claims k).successors
  pub cycles : WinsCycles Odd (LeadsTo claims) (λ k. (claim_line lines claims k).priority)

-- the map h has what the claims claim
abbrev pub HasClaimed : ClaimSet → List MeasureValue → Type 0
HasClaimed claims h = (k : ℕ) → k < claims.count → AtMost (claims.measure k) (measure_at h (claims.vertex k))

-- v has a claim of at least m
pub record IsClaimed (claims : ClaimSet) (v : ℕ) (m : MeasureValue) : Type 0 where
  pub claim : ℕ
  pub among : claim < claims.count
  pub of_vertex : claims.vertex claim ≡ v
  pub enough : AtMost m (claims.measure claim)

-- at each vertex f is at most g, or claimed
abbrev pub IsMapClaimed : List MeasureValue → List MeasureValue → ClaimSet → Type 0
IsMapClaimed g f claims =
    (v : ℕ) → v < length f → AtMost (measure_at f v) (measure_at g v) ⊎ IsClaimed claims v (measure_at f v)
