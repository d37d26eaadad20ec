-- Solutions of games as arrays.
use Rattle.std.specs.Prelude.{◌≡◌, ℕ, ◌<◌, ◌≤◌, ◌==◌, List, length, map, All, Option, None, Some, slice_index, if◌then◌else◌}
use Rattle.std.specs.List.{range_with_len}
use Rattle.pg_arena.specs.Games.{GameVertex, owner, IsEdge}
use Rattle.pg_text.specs.declared.answer.Answer.{Answer}
use Rattle.pg_text.specs.Solutions.{IsSolution, winner, loser, choice}
use Rattle.pg_check.specs.Soundness.{IsSound}
use Rattle.parsolve_c_csr.specs.declared.solution.TheConstants.{NO_CHOICE}
use Rattle.pg_check.specs.declared.verdict.Verdict.{Verdict}
use Rattle.pg_check.specs.declared.verdict.Verdict.TheVariants.{BadCycle}
use Rattle.parsolve_c_csr.specs.Games.{GameArrays, SpellsGame, game_of, player_of}

-- a successor by its number; NO_CHOICE is none
abbrev pub choice_of : ℕ → Option ℕ
choice_of n = if n == NO_CHOICE then None else Some n

-- the answer that the arrays give for the vertex v
abbrev pub answer_of : List ℕ → List ℕ → ℕ → Answer
answer_of winners strategy v = record {
  winner = player_of (slice_index winners v);
  choice = choice_of (slice_index strategy v);
}

-- the solution that the arrays spell: an answer for each winner
abbrev pub solution_of : List ℕ → List ℕ → List Answer
solution_of winners strategy = map (answer_of winners strategy) (range_with_len 0 (length winners))

-- The arrays are a sound solution of the game: a winner, 0 or 1, for each vertex, and a number for each: if the winner owns the vertex,
-- the number of a successor, and otherwise NO_CHOICE.
pub record Solves (game : List GameVertex) (winners strategy : List ℕ) : Type 0 where
  pub as_many : length strategy ≡ length winners
  pub players : All (λ w. w ≤ 1) winners
  pub solution : IsSolution game (solution_of winners strategy)
  pub elsewhere : (v : ℕ) → v < length game → owner game v ≡ loser (solution_of winners strategy) v
      → choice (solution_of winners strategy) v ≡ None
  pub sound : IsSound game (solution_of winners strategy)

-- a winner and a number of the strategy for each priority
pub record HaveSolutionLengths (a : GameArrays) (winners strategy : List ℕ) : Type 0 where
  pub as_many_winners : length winners ≡ length a.priorities
  pub as_many_choices : length strategy ≡ length a.priorities

-- the arrays spell a game and a solution of it
pub record SpellsSolution (a : GameArrays) (winners strategy : List ℕ) : Type 0 where
  pub game : SpellsGame a
  pub lengths : HaveSolutionLengths a winners strategy
  pub players : All (λ w. w ≤ 1) winners
  pub solution : IsSolution (game_of a) (solution_of winners strategy)

-- the winner owns v, and chooses no successor
pub record HasNoChoice (game : List GameVertex) (solution : List Answer) (v : ℕ) : Type 0 where
  pub within : v < length game
  pub own : owner game v ≡ winner solution v
  pub none : ¬ ((w : ℕ) × (choice solution v ≡ Some w) × IsEdge game v w)

-- the winner chooses a successor, if it owns v
abbrev pub IsChosen : List GameVertex → List Answer → ℕ → Type 0
IsChosen game solution v = owner game v ≡ winner solution v → (w : ℕ) × (choice solution v ≡ Some w) × IsEdge game v w

-- a cycle that refutes a solution has at most this many vertices
abbrev pub KeepsCycle : ℕ → Verdict → Type 0
KeepsCycle most (BadCycle cycle) = length cycle.items ≤ most
KeepsCycle most _ = Unit {0}
