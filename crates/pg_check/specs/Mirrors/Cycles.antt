-- Cycles of edges that count, seen from a vertex of their greatest priority.
use Rattle.std.specs.Prelude.{◌≡◌, ◌≢◌, ℕ, ◌<◌, ◌≤◌, List, [], ◌∷◌, ◌++◌, length, slice_index, All, AllPairs}
use Rattle.pg_arena.specs.Games.{GameVertex, HasParityOf, priority, IsPath}
use Rattle.pg_text.specs.declared.answer.Answer.{Answer}
use Rattle.pg_text.specs.Solutions.{loser}
use Rattle.pg_check.specs.Soundness.{Counts}

-- a cycle of edges that count from v through the rest back to v, on which no priority is greater than that of v
pub record IsCycleFrom (game : List GameVertex) (solution : List Answer) (v : ℕ) (rest : List ℕ) : Type 0 where
  pub closes : IsPath (Counts game solution) v (rest ++ v ∷ [])
  pub greatest : All (λ w. priority game w ≤ priority game v) rest

abbrev pub HasNoCycle : List GameVertex → List Answer → ℕ → Type 0
HasNoCycle game solution v = (rest : List ℕ) → ¬ IsCycleFrom game solution v rest

-- a cycle from v that names no vertex twice
abbrev pub IsSimpleCycle : List GameVertex → List Answer → ℕ → List ℕ → Type 0
IsSimpleCycle game solution v vertices =
    (rest : List ℕ) × (vertices ≡ v ∷ rest) × IsCycleFrom game solution v rest × AllPairs (λ x y. x ≢ y) vertices

-- the priority of v has the parity of the loser at v
abbrev pub IsLost : List GameVertex → List Answer → ℕ → Type 0
IsLost game solution v = HasParityOf (loser solution v) (priority game v)

-- no cycle begins at a lost vertex
abbrev pub HasNoBadCycle : List GameVertex → List Answer → Type 0
HasNoBadCycle game solution = (v : ℕ) → IsLost game solution v → HasNoCycle game solution v

-- Vertices in the order in which a search from v reached them, and for each but the first the place of the one before it: an edge
-- that counts leads from there. An edge that counts also leads from the one at `end` back to v.
pub record IsTrail (game : List GameVertex) (solution : List Answer) (v : ℕ) (reached before : List ℕ)
    (end : ℕ) : Type 0 where
  pub first : slice_index reached 0 ≡ v
  pub inside : end < length reached
  pub as_long : length before ≡ length reached
  pub distinct : AllPairs (λ x y. x ≢ y) reached
  pub greatest : All (λ w. priority game w ≤ priority game v) reached
  pub steps : (k : ℕ) → 0 < k → k < length reached
      → (slice_index before k < k) × Counts game solution (slice_index reached (slice_index before k))
      (slice_index reached k)
  pub closes : Counts game solution (slice_index reached end) v
