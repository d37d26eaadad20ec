-- What the commands' answers say about endless plays.
use Rattle.std.specs.Prelude.{◌≡◌, ℕ, ◌<◌, List, length}
use Rattle.pg_arena.specs.Games.{GameVertex}
use Rattle.pg_text.specs.declared.answer.Answer.{Answer}
use Rattle.pg_text.specs.GameText.{IsGameText}
use Rattle.pg_text.specs.Solutions.{winner, IsSolution}
use Rattle.pg_text.specs.SolutionText.{IsSolutionText}
use Rattle.pg_check.specs.Soundness.{IsSound, Wins}
use Rattle.pg_world.specs.declared.fault.WorldFault.{WorldFault}
use Rattle.pg_cli_command.specs.Parts.{IsParted}
use Rattle.pg_cli_command.specs.Measuring.{IsMeasured, IsMeasureOf, IsClosedMapOf}
use Rattle.pg_cli_command.specs.Solving.{IsSolved, IsSolvedAnyhow, IsUndecidedAt}
use Rattle.pg_cli_command.specs.Synthesising.{IsSynthesised}
use Rattle.pg_cli_command.specs.Replaying.{IsReplayed, IsStopped}
use Rattle.pg_cli_command.specs.Making.{IsMade, IsTooLarge}
use Rattle.pg_cli_command.specs.Answers.{PrintsBy}
use Rattle.pg_cli_words.specs.declared.command.Command.{Command}

-- The output spells a solution of the game that the input spells. At each vertex the printed winner wins every endless
-- play that follows the printed strategy, and no sound solution has another winner there.
pub record WinsAsPrinted (input output : List ℕ) : Type 0 where
  pub game : List GameVertex
  pub spelt : IsGameText input game
  pub solution : List Answer
  pub printed : IsSolutionText output game solution
  pub wins : (v : ℕ) → Wins game solution v
  pub one_winner : (other : List Answer) → IsSolution game other → IsSound game other
      → (v : ℕ) → v < length game → winner other v ≡ winner solution v

-- this holds for each answer of `solve` by closed maps, whether or not they are the least
abbrev pub PrintedWinnersWin : Type 0
PrintedWinnersWin = (input output : List ℕ) → IsSolved IsClosedMapOf input output → WinsAsPrinted input output

-- this holds for each answer of `solve --any`
abbrev pub AnyPrintedWinnersWin : Type 0
AnyPrintedWinnersWin = (input output : List ℕ) → IsSolvedAnyhow input output → WinsAsPrinted input output

-- an answer by least progress measures is also an answer by closed maps
abbrev pub LeastIsClosed : Type 0
LeastIsClosed =
    (command : Command) (input output : List ℕ) → PrintsBy IsMeasureOf command input output
    → PrintsBy IsClosedMapOf command input output

-- By least progress measures the output is a function of the input: `measure`, `solve`, `synth`, `replay` and `game` each have at most one
-- answer to an input. If `solve` has an answer, it isn't undecided; if it is undecided, it names one vertex. If `replay` has an answer, no
-- event is refused; if an event is refused, its place and its fault are unique. If `game` has an answer, the game isn't too large.
pub record OneAnswer : Type 0 where
  pub measured : (input first second : List ℕ) → IsMeasured IsMeasureOf input first → IsMeasured IsMeasureOf input second
      → first ≡ second
  pub solved : (input first second : List ℕ) → IsSolved IsMeasureOf input first → IsSolved IsMeasureOf input second
      → first ≡ second
  pub decided : (input output : List ℕ) (id : ℕ) → IsSolved IsMeasureOf input output → ¬ IsUndecidedAt IsMeasureOf input id
  pub undecided : (input : List ℕ) (first second : ℕ) → IsUndecidedAt IsMeasureOf input first
      → IsUndecidedAt IsMeasureOf input second → first ≡ second
  pub synthesised : (input first second : List ℕ) → IsSynthesised IsMeasureOf input first
      → IsSynthesised IsMeasureOf input second → first ≡ second
  pub replayed : (input first second : List ℕ) → IsReplayed (IsParted input) first → IsReplayed (IsParted input) second
      → first ≡ second
  pub unrefused : (input output : List ℕ) (place : ℕ) (fault : WorldFault)
      → IsReplayed (IsParted input) output → ¬ IsStopped (IsParted input) place fault
  pub stopped : (input : List ℕ) (first second : ℕ) (fault other : WorldFault)
      → IsStopped (IsParted input) first fault → IsStopped (IsParted input) second other → (first ≡ second) × (fault ≡ other)
  pub made : (input first second : List ℕ) → IsMade input first → IsMade input second → first ≡ second
  pub within : (input output : List ℕ) → IsMade input output → ¬ IsTooLarge input
