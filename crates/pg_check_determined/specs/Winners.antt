-- Who wins from a vertex of a parity game, and what the least progress measure says of it.
use Rattle.std.specs.Prelude.{◌≡◌, ◌↔◌, ℕ, ◌<◌, List, length, None, IsSome}
use Rattle.pg_arena.specs.declared.player.Player.{Player}
use Rattle.pg_arena.specs.declared.player.Player.TheVariants.{Even, Odd}
use Rattle.pg_arena.specs.Games.{GameVertex, IsGame, dual}
use Rattle.pg_text.specs.declared.answer.Answer.{Answer}
use Rattle.pg_text.specs.Solutions.{IsSolution, winner}
use Rattle.pg_measure.specs.Games.{IsBoundsOf}
use Rattle.pg_map.specs.Lines.{game_line}
use Rattle.pg_map.specs.Maps.{MapValue, IsLeastProgressMeasure, measure_at}
use Rattle.pg_check.specs.Soundness.{IsSound, Wins}
use Rattle.pg_check.specs.Strategies.{IsUndecided}

-- The player wins from v: a solution gives v to that player, and every endless play from v that follows it stays at
-- vertices that it gives to that player, and is won by that player. Nothing is asked of plays from other vertices.
pub record WinsFrom (game : List GameVertex) (player : Player) (v : ℕ) : Type 0 where
  pub solution : List Answer
  pub is_solution : IsSolution game solution
  pub wins : Wins game solution v
  pub given : winner solution v ≡ player

-- one player wins from v, and every sound solution gives v to that player
pub record HasOneWinner (game : List GameVertex) (v : ℕ) : Type 0 where
  pub player : Player
  pub wins : WinsFrom game player v
  pub only : (other : Player) → WinsFrom game other v → other ≡ player
  pub given : (solution : List Answer) → IsSolution game solution → IsSound game solution → winner solution v ≡ player

-- the map has a list exactly where Even wins, and is top exactly where Odd wins
pub record TellsWinners (game : List GameVertex) (f : MapValue) : Type 0 where
  pub even : (v : ℕ) → v < length game → IsSome (measure_at f.measures v) ↔ WinsFrom game Even v
  pub odd : (v : ℕ) → v < length game → (measure_at f.measures v ≡ None) ↔ WinsFrom game Odd v

-- positional determinacy: each game has a sound solution
abbrev pub HasSoundSolution : Type 0
HasSoundSolution =
    (game : List GameVertex) → IsGame game → (solution : List Answer) × IsSolution game solution × IsSound game solution

abbrev pub EachHasOneWinner : Type 0
EachHasOneWinner = (game : List GameVertex) → IsGame game → (v : ℕ) → v < length game → HasOneWinner game v

abbrev pub LeastTellsWinners : Type 0
LeastTellsWinners =
    (game : List GameVertex) (f : MapValue) → IsGame game → IsBoundsOf game f.bounds
    → IsLeastProgressMeasure f.bounds (length game) (game_line game) f.measures → TellsWinners game f

-- the least progress measures of a game and of its dual aren't both top at a vertex
abbrev pub NeverUndecided : Type 0
NeverUndecided =
    (game : List GameVertex) (f g : MapValue) → IsGame game → IsBoundsOf game f.bounds → IsBoundsOf (dual game) g.bounds
    → IsLeastProgressMeasure f.bounds (length game) (game_line game) f.measures
    → IsLeastProgressMeasure g.bounds (length (dual game)) (game_line (dual game)) g.measures
    → (v : ℕ) → ¬ IsUndecided game f g v
