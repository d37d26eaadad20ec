-- Which words of a command line name the files of its input.
use Rattle.std.specs.Prelude.{◌≡◌, ℕ, Bool, true, false, if◌then◌else◌, List, [], ◌∷◌, ◌++◌, length, take, drop, nat_eq, Some, codes, slice_get}
use Rattle.std.specs.List.{list_any, starts_with}
use Rattle.std.specs.Str.{bytes_eq}
use Rattle.pg_cli_words.specs.declared.command.Command.{Command}
use Rattle.pg_cli_words.specs.declared.command.Command.TheVariants.{Measure, Solve, SolveAny, Check, Replay, Automaton, Means, Game, Synth, SynthSmall, SynthCounter, Verify, VerifyFormula}
use Rattle.pg_cli_words.specs.Commands.{command_name}

-- how many files a command takes
abbrev pub files_of : Command → ℕ
files_of (Measure workers) = 1
files_of (Solve workers) = 1
files_of (SolveAny workers) = 1
files_of Check = 2
files_of Replay = 2
files_of Automaton = 1
files_of Means = 2
files_of Game = 1
files_of (Synth workers) = 1
files_of (SynthSmall workers) = 1
files_of (SynthCounter workers) = 1
files_of (Verify workers by_place environment) = 2
files_of (VerifyFormula environment) = 2

-- the word is an option whose value is the next word
abbrev pub takes_value : List ℕ → Bool
takes_value word = list_any (λ option. bytes_eq word option) (codes "--workers" ∷ codes "--apart" ∷ codes "--outs" ∷ [])

-- the word isn't an option: it doesn't begin with a hyphen, or it is a hyphen
abbrev pub is_name : List ℕ → Bool
is_name word = if starts_with nat_eq word (codes "-") then bytes_eq word (codes "-") else true

-- the words that are names and not values of options, and the other words; `is_value` says whether the first word is a value
abbrev pub names_in : Bool → List (List ℕ) → List (List ℕ)
names_in is_value [] = []
names_in true (word ∷ words) = names_in (takes_value word) words
names_in false (word ∷ words) =
    if is_name word then word ∷ names_in (takes_value word) words else names_in (takes_value word) words

abbrev pub others_in : Bool → List (List ℕ) → List (List ℕ)
others_in is_value [] = []
others_in true (word ∷ words) = word ∷ others_in (takes_value word) words
others_in false (word ∷ words) =
    if is_name word then others_in (takes_value word) words else word ∷ others_in (takes_value word) words

-- The second word names a command, and after it come as many names as the command takes files.
pub record HasFiles (words : List (List ℕ)) : Type 0 where
  pub command : Command
  pub named : slice_get words 1 ≡ Some (command_name command)
  pub count : length (names_in false (drop 2 words)) ≡ files_of command

-- `files` are these names, and `others` are the other words.
abbrev pub TakesFiles : List (List ℕ) → List (List ℕ) → List (List ℕ) → Type 0
TakesFiles words files others = HasFiles words × (files ≡ names_in false (drop 2 words))
    × (others ≡ take 2 words ++ others_in false (drop 2 words))
