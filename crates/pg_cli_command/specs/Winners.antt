-- What the commands' answers by least progress measures say about who wins.
use Rattle.std.specs.Prelude.{ℕ, List}
use Rattle.pg_arena.specs.Games.{GameVertex}
use Rattle.pg_text.specs.GameText.{IsGameText}
use Rattle.pg_check_determined.specs.Winners.{TellsWinners}
use Rattle.pg_hoa_automaton.specs.Automata.{Automaton}
use Rattle.pg_aiger.specs.Circuits.{Circuit}
use Rattle.pg_cli_command.specs.Measuring.{IsMeasureOf, IsMeasured}
use Rattle.pg_cli_command.specs.Solving.{IsSolved, IsUndecidedAt}
use Rattle.pg_cli_command.specs.Synthesising.{IsUndecidedFor}
use Rattle.pg_cli_command.specs.Verifying.{IsUndecidedOn}

-- the measures that are printed have a list exactly where Even wins, and are top exactly where Odd wins
abbrev pub MeasuresTellWinners : Type 0
MeasuresTellWinners = (input output : List ℕ) (measured : IsMeasured IsMeasureOf input output)
    → TellsWinners measured.game measured.map

-- no identifier is undecided for any input of `solve` or of `synth`, nor for any circuit that `verify` looks at
pub record NoneUndecided : Type 0 where
  pub solving : (input : List ℕ) (id : ℕ) → ¬ IsUndecidedAt IsMeasureOf input id
  pub synthesising : (input : List ℕ) (id : ℕ) → ¬ IsUndecidedFor IsMeasureOf input id
  pub verifying : (a : Automaton) (circuit : Circuit) (id : ℕ) → ¬ IsUndecidedOn IsMeasureOf a circuit id

-- an answer of each command that takes a game
pub record HasAnswers (input : List ℕ) : Type 0 where
  pub measures : List ℕ
  pub measured : IsMeasured IsMeasureOf input measures
  pub solution : List ℕ
  pub solved : IsSolved IsMeasureOf input solution

abbrev pub GamesHaveAnswers : Type 0
GamesHaveAnswers = (input : List ℕ) (game : List GameVertex) → IsGameText input game → HasAnswers input
