-- A breadth-first search for a cycle from a vertex, while it is under way.
use Rattle.std.specs.Prelude.{◌≡◌, ◌≢◌, ℕ, ◌<◌, ◌≤◌, Bool, true, false, List, length, slice_index, slice_index_or, All, AllPairs, Contains}
use Rattle.pg_arena.specs.Games.{GameVertex, priority}
use Rattle.pg_text.specs.declared.answer.Answer.{Answer}
use Rattle.pg_check.specs.Soundness.{Counts}

-- what a search from v has reached, in order
pub record IsSearched (game : List GameVertex) (solution : List Answer) (v : ℕ) (reached before : List ℕ)
    (flags : List Bool) : Type 0 where
  pub first : slice_index reached 0 ≡ v
  pub some : 0 < length reached
  pub as_long : length before ≡ length reached
  pub whole : length flags ≡ length game
  pub distinct : AllPairs (λ x y. x ≢ y) reached
  pub within : All (λ w. w < length game) reached
  pub greatest : All (λ w. priority game w ≤ priority game v) reached
  pub flagged : All (λ w. slice_index_or flags w false ≡ true) reached
  pub has_flagged : (w : ℕ) → slice_index_or flags w false ≡ true → Contains reached w
  pub steps : (k : ℕ) → 0 < k → k < length reached
      → (slice_index before k < k) × Counts game solution (slice_index reached (slice_index before k)) (slice_index reached k)

-- w doesn't close a cycle, and it is reached if it may be on one
abbrev pub IsTaken : List GameVertex → ℕ → List ℕ → ℕ → Type 0
IsTaken game v reached w = (w ≢ v) × (priority game w ≤ priority game v → Contains reached w)

-- each edge that counts from a place before `at` is taken
abbrev pub AreTaken : List GameVertex → List Answer → ℕ → List ℕ → ℕ → Type 0
AreTaken game solution v reached at =
    (k w : ℕ) → k < at → k < length reached → Counts game solution (slice_index reached k) w → IsTaken game v reached w

-- a search from v that took each edge from the places before `at`
pub record IsExplored (game : List GameVertex) (solution : List Answer) (v : ℕ) (reached before : List ℕ)
    (flags : List Bool) (at : ℕ) : Type 0 where
  pub searched : IsSearched game solution v reached before flags
  pub upto : at ≤ length reached
  pub taken : AreTaken game solution v reached at
