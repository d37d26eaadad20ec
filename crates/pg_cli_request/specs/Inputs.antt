-- The input of a command, and what the command prints for it.
use Rattle.std.specs.Prelude.{◌≡◌, ◌==◌, ℕ, ◌+◌, ◌<◌, ◌≤◌, ◌⊎◌, List, length, map, nat_eq, slice_index_or, codes, if◌then◌else◌}
use Rattle.std.specs.Prelude.{Bool, false, true, Option, Some, None}
use Rattle.std.specs.List.{ends_with, slice_split}
use Rattle.std.specs.Str.{trim}
use Rattle.std.specs.Io.KnownBytes.{Appends}
use Rattle.pg_hoa.specs.Outputs.{HasOutputs}
use Rattle.pg_cli_words.specs.declared.command.Command.{Command}
use Rattle.pg_cli_words.specs.declared.command.Command.TheVariants as commands
use Rattle.pg_cli_command.specs.Parts.{IsParted, AreApart}
use Rattle.pg_cli_command.specs.Measuring.{MapKind, IsClosedMapOf, IsMeasureOf}
use Rattle.pg_cli_command.specs.Checking.{IsChecked}
use Rattle.pg_cli_command.specs.Replaying.{IsReplayed}
use Rattle.pg_cli_command.specs.Refuting.{IsLookedAt}
use Rattle.pg_cli_command.specs.Meaning.{IsMeant}
use Rattle.pg_cli_command.specs.Satisfying.{IsJudgedOn}
use Rattle.pg_cli_command.specs.Answers.{PrintsBy}
use Rattle.pg_cli_request.specs.declared.pair.PairCommand.{PairCommand}
use Rattle.pg_cli_request.specs.declared.pair.PairCommand.TheVariants.{Check, Replay, Means, Verify, VerifyFormula}

-- the command as one that is given two texts
abbrev pub pair_of : Command → Option PairCommand
pair_of commands.Check = Some Check
pair_of commands.Replay = Some Replay
pair_of commands.Means = Some Means
pair_of (commands.Verify workers by_place environment) = Some (Verify by_place environment)
pair_of (commands.VerifyFormula environment) = Some (VerifyFormula environment)
pair_of command = None

-- the input of a command: one text, or two texts, each by itself
pub data Input : Type 0 where
  Whole : List ℕ → Input
  Apart : PairCommand → List ℕ → List ℕ → Input

-- the number of bytes of one input with both texts and a line `--` between them
abbrev pub joined_length : List ℕ → List ℕ → ℕ
joined_length first second = length first + ((if ends_with nat_eq first (codes "\n") then 0 else 1) + (3 + length second))

-- The input is the contents of these files: of the first two, each by itself, if the command takes two texts and two files are named;
-- otherwise of the first, or of standard input if none is named.
abbrev pub IsRead : (List ℕ → List ℕ → Type 0) → Command → List (List ℕ) → Input → Type 0
IsRead holds command files (Whole text) =
    ((pair_of command ≡ None) ⊎ (length files < 2)) × holds (slice_index_or files 0 (codes "-")) text
IsRead holds command files (Apart pair first second) =
    (pair_of command ≡ Some pair) × (2 ≤ length files) × (joined_length first second ≤ 268435456)
    × holds (slice_index_or files 0 (codes "-")) first × holds (slice_index_or files 1 (codes "-")) second

-- the names between commas, without the white space around them
abbrev pub names_in : List ℕ → List (List ℕ)
names_in outs = map trim (slice_split (λ b. b == 44) outs)

-- the text is the same, except that the controller sets these outputs, if any are named
abbrev pub HasNamed : Option (List ℕ) → List ℕ → List ℕ → Type 0
HasNamed None text named = named ≡ text
HasNamed (Some outs) text named = HasOutputs text (names_in outs) named

-- The same input, except that the controller sets these outputs of the automaton, which is the first text. The texts of `verify` are then
-- separated. The input of `automaton` is a formula and stays as it is.
abbrev pub IsNamed : Option (List ℕ) → Command → Input → Input → Type 0
IsNamed outs command (Apart pair first second) (Apart pair' named second') =
    (pair' ≡ pair) × HasNamed outs first named × (second' ≡ second)
IsNamed (Some outs) (commands.Verify workers by_place environment) (Whole text) (Apart pair named second) =
    (pair ≡ Verify by_place environment) × (first : List ℕ) × IsParted text first second × HasNamed (Some outs) first named
IsNamed (Some outs) (commands.Verify workers by_place environment) (Whole text) (Whole named) = ⊥
IsNamed outs commands.Automaton (Whole text) (Whole named) = named ≡ text
IsNamed outs command (Whole text) (Whole named) = HasNamed outs text named
IsNamed outs command given input = ⊥

-- what a command prints for two texts, each by itself
abbrev pub PrintsOfPair : PairCommand → List ℕ → List ℕ → List ℕ → Type 0
PrintsOfPair Check first second output = IsChecked (AreApart first second) output
PrintsOfPair Replay first second output = IsReplayed (AreApart first second) output
PrintsOfPair Means first second output = IsMeant (AreApart first second) output
PrintsOfPair (Verify by_place environment) first second output = IsLookedAt environment (AreApart first second) by_place output
PrintsOfPair (VerifyFormula environment) first second output = IsJudgedOn (AreApart first second) environment output

-- in the automaton that `automaton` prints, the controller sets the outputs that are named
abbrev pub IsHeaded : Option (List ℕ) → Command → List ℕ → List ℕ → Type 0
IsHeaded outs commands.Automaton printed output = HasNamed outs printed output
IsHeaded outs command printed output = output ≡ printed

-- what a command prints for its input, with these outputs; games are solved by maps of this kind
abbrev pub PrintsFor : MapKind → Option (List ℕ) → Command → Input → List ℕ → Type 0
PrintsFor Kind outs command (Whole text) output =
    (printed : List ℕ) × PrintsBy Kind command text printed × IsHeaded outs command printed output
PrintsFor Kind outs command (Apart pair first second) output = PrintsOfPair pair first second output

-- the kind of the maps that solve games: closed maps if the workers are other programs, and otherwise least progress measures
abbrev pub kind_of : Bool → MapKind
kind_of false = IsMeasureOf
kind_of true = IsClosedMapOf

-- The answer was written: what the command prints for the input that the files hold, with the outputs that are named.
pub record IsAnswered (holds : List ℕ → List ℕ → Type 0) (Kind : MapKind) (command : Command) (files : List (List ℕ))
    (outs : Option (List ℕ)) (old new : Option (List ℕ)) : Type 0 where
  pub given : Input
  pub read : IsRead holds command files given
  pub input : Input
  pub named : IsNamed outs command given input
  pub output : List ℕ
  pub prints : PrintsFor Kind outs command input output
  pub written : Appends old new output
