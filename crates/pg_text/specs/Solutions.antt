-- Solutions of a game: who wins at each vertex, and what the winner does there.
use Rattle.std.specs.Prelude.{◌≡◌, ℕ, ◌<◌, List, length, Option, None, Some, slice_index_or}
use Rattle.pg_arena.specs.declared.player.Player.{Player}
use Rattle.pg_arena.specs.declared.player.Player.TheVariants.{Even}
use Rattle.pg_arena.specs.Games.{GameVertex, opponent, owner, IsEdge}
use Rattle.pg_text.specs.declared.answer.Answer.{Answer}

-- the answer at a number past the last vertex, and at each vertex of a new solution
abbrev pub unanswered : Answer
unanswered = record { winner = Even; choice = None }

abbrev pub answer_at : List Answer → ℕ → Answer
answer_at solution v = slice_index_or solution v unanswered

abbrev pub winner : List Answer → ℕ → Player
winner solution v = (answer_at solution v).winner

abbrev pub loser : List Answer → ℕ → Player
loser solution v = opponent (winner solution v)

abbrev pub choice : List Answer → ℕ → Option ℕ
choice solution v = (answer_at solution v).choice

-- A solution of a game: a winner for each vertex, and a choice among the successors if the winner owns the vertex.
pub record IsSolution (game : List GameVertex) (solution : List Answer) : Type 0 where
  pub whole : length solution ≡ length game
  pub chosen : (v : ℕ) → v < length game → owner game v ≡ winner solution v
      → (w : ℕ) × (choice solution v ≡ Some w) × IsEdge game v w
