-- Why a command line gets no answer. Memory may run out at any point; `IsRefused` and `EndsWork` allow that.
use Rattle.std.specs.Prelude.{◌≡◌, ℕ, ◌<◌, ◌≤◌, ◌⊎◌, List, [], length, slice_index_or, codes, unwrap_or, is_some}
use Rattle.std.specs.Prelude.{Bool, true, Option, Some, None}
use Rattle.pg_hoa.specs.Outputs.{HasOutputs, HasControls, LacksOutput}
use Rattle.pg_cli_words.specs.Commands.{workers_of}
use Rattle.pg_cli_words.specs.declared.command.Command.{Command}
use Rattle.pg_cli_words.specs.declared.command.Command.TheVariants as commands
use Rattle.pg_cli_command.specs.Parts.{IsParted, AreApart}
use Rattle.pg_cli_command.specs.Making.{IsNoAutomaton}
use Rattle.pg_cli_command.specs.Measuring.{MapKind, IsMeasureOf}
use Rattle.pg_cli_command.specs.Checking.{RefusesCheck}
use Rattle.pg_cli_command.specs.Replaying.{RefusesReplay}
use Rattle.pg_cli_command.specs.Refuting.{RefusesLook}
use Rattle.pg_cli_command.specs.Meaning.{RefusesMeans}
use Rattle.pg_cli_command.specs.Satisfying.{RefusesJudge}
use Rattle.pg_cli_command.specs.Answers.{meaning_of, PrintsBy}
use Rattle.pg_cli_command.specs.declared.fault.CliFault.{CliFault}
use Rattle.pg_cli_command.specs.declared.fault.CliFault.TheVariants as cli
use Rattle.pg_cli.specs.Serving.{RefusesWork}
use Rattle.pg_cli_request.specs.declared.fault.Fault.{Fault}
use Rattle.pg_cli_request.specs.declared.fault.Fault.TheVariants.{Open, Read, Controlled, NoProposition, Cli}
use Rattle.pg_cli_request.specs.declared.pair.PairCommand.{PairCommand}
use Rattle.pg_cli_request.specs.declared.pair.PairCommand.TheVariants.{Check, Replay, Means, Verify, VerifyFormula}
use Rattle.pg_cli_request.specs.Inputs.{Input, Whole, Apart, pair_of, joined_length, names_in, kind_of, IsRead, IsNamed}

-- programs work for the command, and it can't listen on any port for them
abbrev pub HasNoPort : Bool → Command → Fault → Type 0
HasNoPort true command (Cli cli.OutOfMemory) = Unit {0}
HasNoPort true command (Cli cli.Listen) = 0 < unwrap_or (workers_of command) 0
HasNoPort apart command fault = ⊥

-- ---- what isn't read

-- The file of this name can't be opened or read, and the fault names it; or it is standard input, `-`, and can't be read; or it has more
-- bytes than one input may have.
abbrev pub IsUnread : (List ℕ → List ℕ → Type 0) → List ℕ → Fault → Type 0
IsUnread holds name (Open file why) = file.now ≡ name
IsUnread holds name (Read file) = file.now ≡ name
IsUnread holds name (Cli cli.OutOfMemory) = Unit {0}
IsUnread holds name (Cli cli.Read) = name ≡ codes "-"
IsUnread holds name (Cli cli.InputTooLong) = (text : List ℕ) × holds name text × (268435456 < length text)
IsUnread holds name fault = ⊥

-- together these two files have more bytes than one input may have
abbrev pub AreTooLong : (List ℕ → List ℕ → Type 0) → List ℕ → List ℕ → Fault → Type 0
AreTooLong holds one other (Cli cli.InputTooLong) =
    (first : List ℕ) × (second : List ℕ) × holds one first × holds other second × (268435456 < joined_length first second)
AreTooLong holds one other fault = ⊥

-- one of these two files isn't read, or they are too long together
abbrev pub AreUnread : (List ℕ → List ℕ → Type 0) → List ℕ → List ℕ → Fault → Type 0
AreUnread holds one other fault = IsUnread holds one fault ⊎ (IsUnread holds other fault ⊎ AreTooLong holds one other fault)

-- The files give no input: the first one, or standard input if none is named, isn't read; or the command takes two texts, two files are
-- named, and these give no input.
abbrev pub HasNoInput : (List ℕ → List ℕ → Type 0) → Command → List (List ℕ) → Fault → Type 0
HasNoInput holds command files fault =
    IsUnread holds (slice_index_or files 0 (codes "-")) fault
    ⊎ ((is_some (pair_of command) ≡ true) × (2 ≤ length files)
    × AreUnread holds (slice_index_or files 0 (codes "-")) (slice_index_or files 1 (codes "-")) fault)

-- ---- outputs that aren't named

-- Outputs can't be named in the text: it spells no automaton; or a header in it already says what the controller sets; or no proposition
-- has this name, which is the first such name; or the text is too long with the header that names them.
abbrev pub RefusesNames : List ℕ → List ℕ → Fault → Type 0
RefusesNames outs text (Cli (cli.Hoa fault)) = IsNoAutomaton text fault
RefusesNames outs text Controlled = HasControls text
RefusesNames outs text (NoProposition name) =
    (place : ℕ) × LacksOutput text (names_in outs) place × (name.now ≡ slice_index_or (names_in outs) place [])
RefusesNames outs text (Cli cli.InputTooLong) = (named : List ℕ) × HasOutputs text (names_in outs) named × (268435456 < length named)
RefusesNames outs text (Cli cli.OutOfMemory) = Unit {0}
RefusesNames outs text fault = ⊥

-- outputs are given, and they can't be named in the text
abbrev pub HasNoNamed : Option (List ℕ) → List ℕ → Fault → Type 0
HasNoNamed None text fault = ⊥
HasNoNamed (Some outs) text fault = RefusesNames outs text fault

-- no line `--` separates two texts in this text
abbrev pub IsUnparted : List ℕ → Fault → Type 0
IsUnparted text (Cli cli.NoSeparator) = (first second : List ℕ) → ¬ IsParted text first second
IsUnparted text (Cli cli.OutOfMemory) = Unit {0}
IsUnparted text fault = ⊥

-- The outputs can't be named in the automaton of the input, which is its first text. The texts of `verify` may be in one input, which can't
-- be separated. The input of `automaton` is a formula, so no outputs are named in it.
abbrev pub IsUnnamed : Option (List ℕ) → Command → Input → Fault → Type 0
IsUnnamed outs command (Apart pair first second) fault = HasNoNamed outs first fault
IsUnnamed (Some outs) (commands.Verify workers by_place environment) (Whole text) fault =
    IsUnparted text fault ⊎ ((first : List ℕ) × (second : List ℕ) × IsParted text first second × RefusesNames outs first fault)
IsUnnamed outs commands.Automaton (Whole text) fault = ⊥
IsUnnamed outs command (Whole text) fault = HasNoNamed outs text fault

-- ---- what has no answer

-- why a command refuses two texts, each by itself
abbrev pub RefusesPair : PairCommand → List ℕ → List ℕ → CliFault → Type 0
RefusesPair Check first second fault = RefusesCheck (AreApart first second) fault
RefusesPair Replay first second fault = RefusesReplay (AreApart first second) fault
RefusesPair Means first second fault = RefusesMeans (AreApart first second) fault
RefusesPair (Verify by_place environment) first second fault = RefusesLook environment IsMeasureOf (AreApart first second) by_place fault
RefusesPair (VerifyFormula environment) first second fault = RefusesJudge (AreApart first second) fault

-- why a command refuses its input for its contents
abbrev pub RefusesInput : MapKind → Command → Input → CliFault → Type 0
RefusesInput Kind command (Whole text) fault = (meaning_of Kind command text).refuses fault
RefusesInput Kind command (Apart pair first second) fault = RefusesPair pair first second fault

-- memory runs out, or writing fails, or the input is refused with this fault
abbrev pub OrLost : (CliFault → Type 0) → Fault → Type 0
OrLost Refuses (Cli cli.OutOfMemory) = Unit {0}
OrLost Refuses (Cli cli.Write) = Unit {0}
OrLost Refuses (Cli fault) = Refuses fault
OrLost Refuses fault = ⊥

-- the outputs can't be named in the automaton that `automaton` prints
abbrev pub IsUnheaded : Option (List ℕ) → Command → List ℕ → Fault → Type 0
IsUnheaded outs commands.Automaton printed fault = HasNoNamed outs printed fault
IsUnheaded outs command printed fault = ⊥

-- the command has no answer to its input, or none in which these outputs can be named, or the answer isn't written
abbrev pub RefusesFor : MapKind → Option (List ℕ) → Command → Input → Fault → Type 0
RefusesFor Kind outs command (Whole text) fault =
    OrLost (RefusesInput Kind command (Whole text)) fault
    ⊎ ((printed : List ℕ) × PrintsBy Kind command text printed × IsUnheaded outs command printed fault)
RefusesFor Kind outs command input fault = OrLost (RefusesInput Kind command input) fault

-- the outputs can't be named in this input, or the command has no answer to the input in which they are named
abbrev pub RefusesGiven : MapKind → Option (List ℕ) → Command → Input → Fault → Type 0
RefusesGiven Kind outs command given fault =
    IsUnnamed outs command given fault
    ⊎ ((input : Input) × IsNamed outs command given input × RefusesFor Kind outs command input fault)

-- There is no answer for this reason: programs work for the command, and it can't listen on any port for them; or the files give no input;
-- or the input that they give is refused.
abbrev pub IsRefused : (List ℕ → List ℕ → Type 0) → Bool → Command → List (List ℕ) → Option (List ℕ) → Fault → Type 0
IsRefused holds apart command files outs fault =
    HasNoPort apart command fault
    ⊎ (HasNoInput holds command files fault
    ⊎ ((given : Input) × IsRead holds command files given × RefusesGiven (kind_of apart) outs command given fault))

-- why a worker that serves at this port ends
abbrev pub EndsWork : ℕ → Fault → Type 0
EndsWork port (Cli fault) = RefusesWork port fault
EndsWork port fault = ⊥
