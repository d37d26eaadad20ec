-- What `solve` and `solve --any` print.
use Rattle.std.specs.Prelude.{◌≡◌, ℕ, ◌<◌, ◌^◌, List, All}
use Rattle.pg_arena.specs.Games.{GameVertex, dual}
use Rattle.pg_map.specs.Maps.{MapValue}
use Rattle.pg_text.specs.GameText.{IsGameText}
use Rattle.pg_text.specs.SolutionLayout.{solution_text}
use Rattle.pg_text.specs.declared.answer.Answer.{Answer}
use Rattle.pg_check.specs.Soundness.{IsSoundSolution}
use Rattle.pg_check.specs.Strategies.{IsSolutionOf, IsLeastUndecided}
use Rattle.pg_cli_command.specs.Texts.{IsNoGame}
use Rattle.pg_cli_command.specs.Measuring.{MapKind}
use Rattle.pg_cli_command.specs.declared.fault.CliFault.{CliFault}
use Rattle.pg_cli_command.specs.declared.fault.CliFault.TheVariants.{Text, Undecided}

-- the solution that a map of the game and a map of its dual give, both of this kind
pub record IsSolvedBy (Kind : MapKind) (game : List GameVertex) (solution : List Answer) : Type 0 where
  pub even : MapValue
  pub odd : MapValue
  pub even_found : Kind game even
  pub odd_found : Kind (dual game) odd
  pub solution_of : IsSolutionOf game even odd solution

-- The input spells a game whose identifiers are 32-bit numbers, and the output is the text of such a solution of the game.
pub record Solves (Solution : List GameVertex → List Answer → Type 0) (input output : List ℕ) : Type 0 where
  pub game : List GameVertex
  pub spelt : IsGameText input game
  pub identifiers : All (λ x. x.identifier < 2 ^ 32) game
  pub solution : List Answer
  pub solved : Solution game solution
  pub printed : output ≡ solution_text game solution

abbrev pub IsSolved : MapKind → List ℕ → List ℕ → Type 0
IsSolved Kind input output = Solves (IsSolvedBy Kind) input output

-- the output is the text of a sound solution, whichever that is
abbrev pub IsSolvedAnyhow : List ℕ → List ℕ → Type 0
IsSolvedAnyhow input output = Solves IsSoundSolution input output

-- The vertex with this identifier is the least at which a map of the game and a map of its dual, both of this kind, are both top.
pub record IsUndecidedIn (Kind : MapKind) (game : List GameVertex) (id : ℕ) : Type 0 where
  pub even : MapValue
  pub odd : MapValue
  pub even_found : Kind game even
  pub odd_found : Kind (dual game) odd
  pub undecided : IsLeastUndecided game even odd id

-- The input spells a game that has such a vertex.
pub record IsUndecidedAt (Kind : MapKind) (input : List ℕ) (id : ℕ) : Type 0 where
  pub game : List GameVertex
  pub spelt : IsGameText input game
  pub undecided : IsUndecidedIn Kind game id

-- why an input has no such output: it spells no game, or both maps are top at some vertex
abbrev pub RefusesSolve : MapKind → List ℕ → CliFault → Type 0
RefusesSolve Kind input (Text fault) = IsNoGame input fault
RefusesSolve Kind input (Undecided id) = IsUndecidedAt Kind input id
RefusesSolve Kind input _ = ⊥
