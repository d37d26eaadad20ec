-- The laws on endless plays and sound solutions, as statements.
use Rattle.std.specs.Prelude.{◌≡◌, ◌↔◌, ℕ, ◌<◌, List, length}
use Rattle.pg_arena.specs.declared.player.Player.TheVariants.{Even, Odd}
use Rattle.pg_arena.specs.Games.{GameVertex, IsGame, IsEdge, priority}
use Rattle.pg_text.specs.declared.answer.Answer.{Answer}
use Rattle.pg_text.specs.Solutions.{winner}
use Rattle.pg_check.specs.Plays.{IsPlay, IsGreatestRecurring, Loses, stretch}
use Rattle.pg_text.specs.Solutions.{IsSolution}
use Rattle.pg_check.specs.Soundness.{Counts, IsSound, IsSafe, KeepsCount, Wins}

-- a play has at most one greatest recurring priority and can't be without one, and so it isn't lost by both players or by neither
pub record HasOneLoser (met : ℕ → ℕ) : Type 0 where
  pub at_most_one : (p q : ℕ) → IsGreatestRecurring met p → IsGreatestRecurring met q → p ≡ q
  pub not_none : ¬ ¬ ((p : ℕ) × IsGreatestRecurring met p)
  pub not_both : ¬ (Loses Even met × Loses Odd met)
  pub not_neither : ¬ (¬ Loses Even met × ¬ Loses Odd met)

abbrev pub OneRecurring : Type 0
OneRecurring =
    (game : List GameVertex) (play : ℕ → ℕ) → IsGame game → IsPlay (IsEdge game) play
    → HasOneLoser (λ t. priority game (play t))

-- the play stays with the winner of its first vertex and keeps the count in every finite part
pub record KeepsToSolution (game : List GameVertex) (solution : List Answer) (play : ℕ → ℕ) : Type 0 where
  pub stays : (t : ℕ) → winner solution (play t) ≡ winner solution (play 0)
  pub counts : (from count : ℕ) → KeepsCount game (winner solution (play 0)) (stretch play from count)

-- what a sound solution does for each play that follows it
pub record WinsAll (game : List GameVertex) (solution : List Answer) : Type 0 where
  pub keeps : (play : ℕ → ℕ) → IsPlay (Counts game solution) play → KeepsToSolution game solution play
  pub wins : (v : ℕ) → Wins game solution v

abbrev pub SoundWins : Type 0
SoundWins = (game : List GameVertex) (solution : List Answer) → IsGame game → IsSound game solution
    → WinsAll game solution

-- a solution is sound exactly if each printed winner wins by the printed strategy
abbrev pub SoundIffWins : Type 0
SoundIffWins =
    (game : List GameVertex) (solution : List Answer) → IsGame game → IsSolution game solution
    → IsSound game solution ↔ ((v : ℕ) → v < length game → Wins game solution v)

abbrev pub SoundIffSafe : Type 0
SoundIffSafe =
    (game : List GameVertex) (solution : List Answer) → IsGame game
    → IsSound game solution ↔ IsSafe game solution

abbrev pub OneWinner : Type 0
OneWinner =
    (game : List GameVertex) (first second : List Answer) → IsGame game
    → IsSolution game first → IsSolution game second → IsSound game first → IsSound game second
    → (v : ℕ) → v < length game → winner first v ≡ winner second v
