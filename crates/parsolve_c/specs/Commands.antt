-- The commands by their numbers, and the answers to a text.
use Rattle.std.specs.Prelude.{◌≡◌, ◌≢◌, ℕ, ◌<◌, ◌==◌, false, List, length, drop, ◌++◌, Option, Some, None, if◌then◌else◌}
use Rattle.pg_cli_words.specs.declared.command.Command.{Command}
use Rattle.pg_cli_words.specs.declared.command.Command.TheVariants.{Measure, Solve, SolveAny, Check, Replay, Automaton, Means, Game, Synth, SynthSmall, SynthCounter, Verify, VerifyFormula}
use Rattle.pg_cli_command.specs.declared.fault.CliFault.{CliFault}
use Rattle.pg_cli_command.specs.declared.fault.CliFault.TheVariants.{OutOfMemory, Read, Write}
use Rattle.pg_cli_command.specs.FaultTexts.{fault_line}
use Rattle.pg_cli_command.specs.Answers.{Prints, Refuses}
use Rattle.parsolve_c.specs.declared.code.TheConstants.{PARSOLVE_COMMAND_MEASURE, PARSOLVE_COMMAND_SOLVE, PARSOLVE_COMMAND_CHECK}
use Rattle.parsolve_c.specs.declared.code.TheConstants.{PARSOLVE_COMMAND_REPLAY, PARSOLVE_COMMAND_GAME, PARSOLVE_COMMAND_SYNTH, PARSOLVE_COMMAND_SOLVE_ANY}
use Rattle.parsolve_c.specs.declared.code.TheConstants.{PARSOLVE_COMMAND_VERIFY, PARSOLVE_COMMAND_SYNTH_SMALL, PARSOLVE_COMMAND_AUTOMATON}
use Rattle.parsolve_c.specs.declared.code.TheConstants.{PARSOLVE_COMMAND_MEANS, PARSOLVE_COMMAND_SYNTH_COUNTER, PARSOLVE_COMMAND_VERIFY_LTL}

-- the command with this number
abbrev pub command_of : ℕ → Option Command
command_of n =
    if n == PARSOLVE_COMMAND_MEASURE then Some (Measure 1)
    else (if n == PARSOLVE_COMMAND_SOLVE then Some (Solve 1)
    else (if n == PARSOLVE_COMMAND_CHECK then Some Check
    else (if n == PARSOLVE_COMMAND_REPLAY then Some Replay
    else (if n == PARSOLVE_COMMAND_GAME then Some Game
    else (if n == PARSOLVE_COMMAND_SYNTH then Some (Synth 1)
    else (if n == PARSOLVE_COMMAND_SOLVE_ANY then Some (SolveAny 1)
    else (if n == PARSOLVE_COMMAND_VERIFY then Some (Verify 1 false false)
    else (if n == PARSOLVE_COMMAND_SYNTH_SMALL then Some (SynthSmall 1)
    else (if n == PARSOLVE_COMMAND_AUTOMATON then Some Automaton
    else (if n == PARSOLVE_COMMAND_MEANS then Some Means
    else (if n == PARSOLVE_COMMAND_SYNTH_COUNTER then Some (SynthCounter 1)
    else (if n == PARSOLVE_COMMAND_VERIFY_LTL then Some (VerifyFormula false)
    else None))))))))))))

-- each number of the header stands for a command of its own, and no command has two numbers
pub record NumbersTellApart : Type 0 where
  pub measure : command_of PARSOLVE_COMMAND_MEASURE ≡ Some (Measure 1)
  pub solve : command_of PARSOLVE_COMMAND_SOLVE ≡ Some (Solve 1)
  pub check : command_of PARSOLVE_COMMAND_CHECK ≡ Some Check
  pub replay : command_of PARSOLVE_COMMAND_REPLAY ≡ Some Replay
  pub game : command_of PARSOLVE_COMMAND_GAME ≡ Some Game
  pub synth : command_of PARSOLVE_COMMAND_SYNTH ≡ Some (Synth 1)
  pub solve_any : command_of PARSOLVE_COMMAND_SOLVE_ANY ≡ Some (SolveAny 1)
  pub verify : command_of PARSOLVE_COMMAND_VERIFY ≡ Some (Verify 1 false false)
  pub synth_small : command_of PARSOLVE_COMMAND_SYNTH_SMALL ≡ Some (SynthSmall 1)
  pub automaton : command_of PARSOLVE_COMMAND_AUTOMATON ≡ Some Automaton
  pub means : command_of PARSOLVE_COMMAND_MEANS ≡ Some Means
  pub synth_counter : command_of PARSOLVE_COMMAND_SYNTH_COUNTER ≡ Some (SynthCounter 1)
  pub verify_formula : command_of PARSOLVE_COMMAND_VERIFY_LTL ≡ Some (VerifyFormula false)
  pub one_number : (m n : ℕ) (command : Command) → command_of m ≡ Some command → command_of n ≡ Some command → m ≡ n

-- the command with this number prints this text for the input
pub record IsPrinted (n : ℕ) (input text : List ℕ) : Type 0 where
  pub command : Command
  pub numbered : command_of n ≡ Some command
  pub prints : Prints command input text

-- The text is the line of a fault for which the command with this number prints nothing. The fault is the input's own: it isn't about
-- memory, and it isn't about a read or a write, since the command makes none of these.
pub record IsFaultLine (n : ℕ) (input text : List ℕ) : Type 0 where
  pub command : Command
  pub numbered : command_of n ≡ Some command
  pub fault : CliFault
  pub refuses : Refuses command input fault
  pub no_memory : fault ≢ OutOfMemory
  pub no_read : fault ≢ Read
  pub no_write : fault ≢ Write
  pub line : text ≡ fault_line fault

-- the text is at the start of the output, the rest is as it was, and the length of the text is returned
pub record IsHandedWhole (text old new : List ℕ) (written : ℕ) : Type 0 where
  pub told : written ≡ length text
  pub front : new ≡ text ++ drop (length text) old

-- there is no room for the text, and its length is returned
pub record IsTooLong (text old : List ℕ) (written : ℕ) : Type 0 where
  pub told : written ≡ length text
  pub longer : length old < length text
