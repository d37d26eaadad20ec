-- The word that asks for a line.
use Rattle.std.specs.Prelude.{◌≡◌, ℕ, List, codes}
use Rattle.pg_cli_words.specs.declared.words.Invocation.{Invocation}
use Rattle.pg_cli_words.specs.declared.words.Invocation.TheVariants.{Run, Work}
use Rattle.pg_cli_words.specs.Commands.{command_name}
use Rattle.pg_cli_words.specs.Words.{HasFewWorkers, IsPort}

-- the word is the name of the line's command, or `worker`
abbrev pub IsLineOf : List ℕ → Invocation → Type 0
IsLineOf name (Run command path) = (name ≡ command_name command) × HasFewWorkers command
IsLineOf name (Work port) = (name ≡ codes "worker") × IsPort port
