-- What `check` prints.
use Rattle.std.specs.Prelude.{◌≡◌, ◌↔◌, ◌⊎◌, ℕ, List, [], ◌∷◌, ◌++◌, map, max, codes, decimal}
use Rattle.pg_arena.specs.Games.{GameVertex, identifier, priority}
use Rattle.pg_text.specs.Numbers.{identifiers_text}
use Rattle.pg_text.specs.GameText.{IsGameText}
use Rattle.pg_text.specs.SolutionText.{IsSolutionText}
use Rattle.pg_text.specs.declared.answer.Answer.{Answer}
use Rattle.pg_check.specs.Soundness.{IsSound}
use Rattle.pg_check.specs.Verdicts.{IsWins, Refutes}
use Rattle.pg_check.specs.declared.verdict.Verdict.{Verdict}
use Rattle.pg_check.specs.declared.verdict.Verdict.TheVariants.{Wins, Leaves, BadCycle}
use Rattle.pg_cli_command.specs.Parts.{Parting}
use Rattle.pg_cli_command.specs.Texts.{IsNoSolution, FailsFirst, FailsSecond}
use Rattle.pg_cli_command.specs.declared.fault.CliFault.{CliFault}
use Rattle.pg_cli_command.specs.declared.fault.CliFault.TheVariants.{Text, NoSeparator}

-- the greatest of these numbers
abbrev pub greatest : List ℕ → ℕ
greatest [] = 0
greatest (n ∷ ns) = max n (greatest ns)

-- `WINS`; or `LEAVES` and an edge; or `CYCLE`, the greatest priority of the cycle, and the cycle; and then a newline
abbrev pub verdict_text : List GameVertex → Verdict → List ℕ
verdict_text game Wins = codes "WINS\n"
verdict_text game (Leaves v w) =
    codes "LEAVES " ++ (decimal (identifier game v) ++ (codes " " ++ (decimal (identifier game w) ++ codes "\n")))
verdict_text game (BadCycle cycle) =
    codes "CYCLE " ++ (decimal (greatest (map (priority game) cycle.items)) ++ (codes " "
    ++ (identifiers_text game cycle.items ++ codes "\n")))

-- Two texts, one of a game and one of a solution of the game, and a verdict on the solution: `Wins` exactly if the solution is sound, and
-- otherwise the evidence against it.
pub record IsCheckedBy (Parts : Parting) (game : List GameVertex) (verdict : Verdict) : Type 0 where
  pub first : List ℕ
  pub second : List ℕ
  pub parted : Parts first second
  pub spelt : IsGameText first game
  pub solution : List Answer
  pub answered : IsSolutionText second game solution
  pub wins : IsWins verdict ↔ IsSound game solution
  pub refutes : Refutes game solution verdict

-- The output is the text of such a verdict.
pub record IsChecked (Parts : Parting) (output : List ℕ) : Type 0 where
  pub game : List GameVertex
  pub verdict : Verdict
  pub checked : IsCheckedBy Parts game verdict
  pub printed : output ≡ verdict_text game verdict

-- why there is no such output: there aren't two texts, or the first text fails, or the second one does
abbrev pub RefusesCheck : Parting → CliFault → Type 0
RefusesCheck Parts NoSeparator = (first second : List ℕ) → ¬ Parts first second
RefusesCheck Parts (Text fault) = FailsFirst Parts fault ⊎ FailsSecond Parts (λ text game. IsNoSolution text game fault)
RefusesCheck Parts _ = ⊥
