-- The bounds of a game.
use Rattle.std.specs.Prelude.{◌≡◌, ℕ, ◌%◌, ◌<◌, ◌==◌, ◌↔◌, List, count_by, AllPairs, Contains}
use Rattle.pg_arena.specs.Games.{GameVertex}
use Rattle.pg_measure.specs.Measures.{BoundList}

-- the number of vertices with the priority p
abbrev pub vertices_of : List GameVertex → ℕ → ℕ
vertices_of game p = count_by (λ x. x.priority == p) game

-- exactly the odd priorities that occur, in falling order, each with the number of its vertices
pub record IsBoundsOf (game : List GameVertex) (bounds : BoundList) : Type 0 where
  pub falling : AllPairs (λ b c. c.0 < b.0) bounds
  pub exact : (p n : ℕ) → Contains bounds (p, n) ↔ ((p % 2 ≡ 1) × (0 < n) × (n ≡ vertices_of game p))
