-- Sound solutions: which edges a solution lets count, which paths and cycles speak against it, and who wins by it.
use Rattle.std.specs.Prelude.{◌≡◌, ℕ, ◌<◌, ◌≤◌, ◌==◌, ◌⊎◌, List, [], ◌∷◌, ◌++◌, None, Some, length, map, All, count_by}
use Rattle.pg_arena.specs.declared.player.Player.{Player}
use Rattle.pg_arena.specs.Games.{opponent, HasParityOf, GameVertex, priority, owner, IsEdge, IsPath, IsGreatest}
use Rattle.pg_text.specs.declared.answer.Answer.{Answer}
use Rattle.pg_text.specs.Solutions.{winner, loser, choice, IsSolution}
use Rattle.pg_check.specs.Plays.{IsPlay, WinsPlay}

-- An edge counts if it leaves a vertex of the loser, or is the choice. What goes by such edges follows the solution.
abbrev pub Counts : List GameVertex → List Answer → ℕ → ℕ → Type 0
Counts game solution v w =
    IsEdge game v w × ((owner game v ≡ loser solution v) ⊎ (choice solution v ≡ Some w))

-- every play from v that follows the solution stays with the winner of v and is won by that player
abbrev pub Wins : List GameVertex → List Answer → ℕ → Type 0
Wins game solution v =
    (play : ℕ → ℕ) → play 0 ≡ v → IsPlay (Counts game solution) play
    → ((t : ℕ) → winner solution (play t) ≡ winner solution v)
    × WinsPlay (winner solution v) (λ t. priority game (play t))

-- how many of these vertices have the priority p
abbrev pub meetings : List GameVertex → ℕ → List ℕ → ℕ
meetings game p vertices = count_by (λ v. priority game v == p) vertices

-- the vertices meet their greatest priority, if it has the parity of the player's opponent, at most as often
-- as the game has vertices
abbrev pub KeepsCount : List GameVertex → Player → List ℕ → Type 0
KeepsCount game player vertices =
    (p : ℕ) → IsGreatest p (map (priority game) vertices) → HasParityOf (opponent player) p
    → meetings game p vertices ≤ length game

-- a path that stays with the winner of its first vertex, and each consecutive part of which keeps the count
pub record IsSafePath (game : List GameVertex) (solution : List Answer) (v : ℕ) (rest : List ℕ) : Type 0 where
  pub stays : All (λ w. winner solution w ≡ winner solution v) rest
  pub counts : (before part after : List ℕ) → v ∷ rest ≡ before ++ part ++ after
      → KeepsCount game (winner solution v) part

-- every path that follows the solution is safe
abbrev pub IsSound : List GameVertex → List Answer → Type 0
IsSound game solution =
    (v : ℕ) (rest : List ℕ) → v < length game → IsPath (Counts game solution) v rest
    → IsSafePath game solution v rest

-- a sound solution of the game, without a choice where the loser owns the vertex
pub record IsSoundSolution (game : List GameVertex) (solution : List Answer) : Type 0 where
  pub choices : IsSolution game solution
  pub elsewhere : (v : ℕ) → v < length game → owner game v ≡ loser solution v → choice solution v ≡ None
  pub sound : IsSound game solution

-- no edge that counts joins vertices with different winners
abbrev pub NoneLeaves : List GameVertex → List Answer → Type 0
NoneLeaves game solution =
    (v w : ℕ) → Counts game solution v w → winner solution w ≡ winner solution v

-- a cycle of edges that count from v through the rest back to v, on which the greatest priority has the parity of the loser at v
pub record IsBadCycle (game : List GameVertex) (solution : List Answer) (v : ℕ) (rest : List ℕ) : Type 0 where
  pub closes : IsPath (Counts game solution) v (rest ++ v ∷ [])
  pub lost : (p : ℕ) × IsGreatest p (map (priority game) (v ∷ rest)) × HasParityOf (loser solution v) p

-- what a checker looks for, and doesn't find
pub record IsSafe (game : List GameVertex) (solution : List Answer) : Type 0 where
  pub none_leaves : NoneLeaves game solution
  pub no_bad_cycle : (v : ℕ) (rest : List ℕ) → ¬ IsBadCycle game solution v rest
