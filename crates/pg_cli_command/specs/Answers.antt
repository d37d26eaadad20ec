-- What each command answers, and why it gives no answer.
use Rattle.std.specs.Prelude.{ℕ, ◌<◌, ◌≤◌, List, length, Option, Result, Ok, Err}
use Rattle.std.specs.Io.KnownBytes.{Appends}
use Rattle.pg_cli_command.specs.Parts.{IsParted}
use Rattle.pg_cli_command.specs.Measuring.{MapKind, IsMeasureOf, IsMeasured, RefusesMeasure}
use Rattle.pg_cli_command.specs.Solving.{IsSolved, IsSolvedAnyhow, RefusesSolve}
use Rattle.pg_cli_command.specs.Checking.{IsChecked, RefusesCheck}
use Rattle.pg_cli_command.specs.Replaying.{IsReplayed, RefusesReplay}
use Rattle.pg_cli_command.specs.Making.{IsMade, RefusesGame}
use Rattle.pg_cli_command.specs.Synthesising.{IsSynthesised, RefusesSynth}
use Rattle.pg_cli_command.specs.Small.{IsSynthesisedSmall}
use Rattle.pg_cli_command.specs.Counter.{IsSynthesisedCounter, RefusesCounter}
use Rattle.pg_cli_command.specs.Refuting.{IsLookedAt, RefusesLook}
use Rattle.pg_cli_command.specs.Meaning.{IsMeant, RefusesMeans}
use Rattle.pg_cli_command.specs.Satisfying.{IsJudgedOn, RefusesJudge}
use Rattle.pg_cli_command.specs.Translating.{IsTranslated, RefusesAutomaton}
use Rattle.pg_cli_words.specs.declared.command.Command.{Command}
use Rattle.pg_cli_words.specs.declared.command.Command.TheVariants.{Measure, Solve, SolveAny, Check, Replay, Automaton, Means, Game, Synth, SynthSmall, SynthCounter, Verify, VerifyFormula}
use Rattle.pg_cli_command.specs.declared.fault.CliFault.{CliFault}
use Rattle.pg_cli_command.specs.declared.fault.CliFault.TheVariants.{OutOfMemory, Read, Write, InputTooLong}

-- what a command prints for an input, and why it refuses the input for its contents
pub record Meaning : Type 1 where
  pub prints : List ℕ → Type 0
  pub refuses : CliFault → Type 0

-- the meaning of each command; games are solved by maps of this kind
abbrev pub meaning_of : MapKind → Command → List ℕ → Meaning
meaning_of Kind (Measure workers) input = record { prints = IsMeasured Kind input; refuses = RefusesMeasure input }
meaning_of Kind (Solve workers) input = record { prints = IsSolved Kind input; refuses = RefusesSolve Kind input }
meaning_of Kind (SolveAny workers) input = record { prints = IsSolvedAnyhow input; refuses = RefusesSolve Kind input }
meaning_of Kind Check input = record { prints = IsChecked (IsParted input); refuses = RefusesCheck (IsParted input) }
meaning_of Kind Replay input = record { prints = IsReplayed (IsParted input); refuses = RefusesReplay (IsParted input) }
meaning_of Kind Automaton input = record { prints = IsTranslated input; refuses = RefusesAutomaton input }
meaning_of Kind Means input = record { prints = IsMeant (IsParted input); refuses = RefusesMeans (IsParted input) }
meaning_of Kind Game input = record { prints = IsMade input; refuses = RefusesGame input }
meaning_of Kind (Synth workers) input = record { prints = IsSynthesised Kind input; refuses = RefusesSynth Kind input }
meaning_of Kind (SynthSmall workers) input = record { prints = IsSynthesisedSmall Kind input; refuses = RefusesSynth Kind input }
meaning_of Kind (SynthCounter workers) input = record { prints = IsSynthesisedCounter Kind input; refuses = RefusesCounter Kind input }
meaning_of Kind (Verify workers by_place environment) input = record {
  prints = IsLookedAt environment (IsParted input) by_place;
  refuses = RefusesLook environment Kind (IsParted input) by_place;
}
meaning_of Kind (VerifyFormula environment) input = record {
  prints = IsJudgedOn (IsParted input) environment;
  refuses = RefusesJudge (IsParted input);
}

-- The command prints the output: the input is within the limit, and the output is the answer to it.
pub record PrintsBy (Kind : MapKind) (command : Command) (input output : List ℕ) : Type 0 where
  pub limit : length input ≤ 268435456
  pub answer : (meaning_of Kind command input).prints output

-- Why a command prints no answer. The writer can only fail on an answer. Nothing is said about running out of memory and about the reader.
abbrev pub RefusesBy : MapKind → Command → List ℕ → CliFault → Type 0
RefusesBy Kind command input OutOfMemory = Unit {0}
RefusesBy Kind command input Read = Unit {0}
RefusesBy Kind command input InputTooLong = 268435456 < length input
RefusesBy Kind command input Write = (output : List ℕ) × PrintsBy Kind command input output
RefusesBy Kind command input fault = (length input ≤ 268435456) × (meaning_of Kind command input).refuses fault

-- The result for an input: an answer, appended to the old output, or a refusal.
abbrev pub Answers : MapKind → Command → List ℕ → Option (List ℕ) → Option (List ℕ) → Result (Unit {0}) CliFault → Type 0
Answers Kind command input old new (Ok done) = (output : List ℕ) × PrintsBy Kind command input output × Appends old new output
Answers Kind command input old new (Err fault) = RefusesBy Kind command input fault

-- what a command prints by least progress measures
abbrev pub Prints : Command → List ℕ → List ℕ → Type 0
Prints command input output = PrintsBy IsMeasureOf command input output

abbrev pub Refuses : Command → List ℕ → CliFault → Type 0
Refuses command input fault = RefusesBy IsMeasureOf command input fault
