-- Why a text that has to spell a game, or a solution of a game, is refused.
use Rattle.std.specs.Prelude.{ℕ, List}
use Rattle.pg_arena.specs.Games.{GameVertex}
use Rattle.pg_text.specs.GameText.{IsGameText, SpellsNoGame, Refuses}
use Rattle.pg_text.specs.SolutionText.{SpellsNoSolution, RefusesSolution}
use Rattle.pg_text.specs.declared.fault.TextFault.{TextFault}
use Rattle.pg_cli_command.specs.Parts.{Parting}

-- the text spells no game, and the fault is one that the reader of games gives for its contents
abbrev pub IsNoGame : List ℕ → TextFault → Type 0
IsNoGame text fault = SpellsNoGame text × Refuses text fault

-- the text spells no solution of the game, and the fault is one that the reader of its solutions gives for its contents
abbrev pub IsNoSolution : List ℕ → List GameVertex → TextFault → Type 0
IsNoSolution text game fault = SpellsNoSolution text game × RefusesSolution text game fault

-- the first of two texts spells no game
pub record FailsFirst (Parts : Parting) (fault : TextFault) : Type 0 where
  pub first : List ℕ
  pub second : List ℕ
  pub parted : Parts first second
  pub none : IsNoGame first fault

-- the first spells a game, and the second fails for it
pub record FailsSecond (Parts : Parting) (Fails : List ℕ → List GameVertex → Type 0) : Type 0 where
  pub first : List ℕ
  pub second : List ℕ
  pub parted : Parts first second
  pub game : List GameVertex
  pub spelt : IsGameText first game
  pub none : Fails second game
