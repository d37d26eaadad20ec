-- A text spells at most one game, and for a given game at most one solution.
use Rattle.std.specs.Prelude.{◌≡◌, ℕ, List}
use Rattle.pg_arena.specs.Games.{GameVertex, IsGame}
use Rattle.pg_text.specs.declared.answer.Answer.{Answer}
use Rattle.pg_text.specs.GameText.{IsGameText}
use Rattle.pg_text.specs.SolutionText.{IsSolutionText}

abbrev pub SpellsOneGame : Type 0
SpellsOneGame = (bytes : List ℕ) (game other : List GameVertex)
    → IsGameText bytes game → IsGameText bytes other → other ≡ game

abbrev pub SpellsOneSolution : Type 0
SpellsOneSolution = (bytes : List ℕ) (game : List GameVertex) (solution other : List Answer) → IsGame game
    → IsSolutionText bytes game solution → IsSolutionText bytes game other → other ≡ solution
