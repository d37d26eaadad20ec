-- What a command line asks for.
use Rattle.std.specs.Prelude.{◌≡◌, ◌≤◌, ℕ, List, Some, IfSome, codes, slice_get}
use Rattle.pg_cli_words.specs.declared.command.Command.{Command}
use Rattle.pg_cli_words.specs.Commands.{command_name, workers_of}
use Rattle.pg_cli_words.specs.declared.words.Invocation.{Invocation}
use Rattle.pg_cli_words.specs.declared.words.Invocation.TheVariants.{Run, Work}

-- the command has at most 16 workers
abbrev pub HasFewWorkers : Command → Type 0
HasFewWorkers command = IfSome (workers_of command) (λ workers. workers ≤ 16)

-- the command has no workers
abbrev pub HasNoWorkers : Command → Type 0
HasNoWorkers command = IfSome (workers_of command) (λ workers. workers ≡ 0)

-- a number that can name a port, from 1 to 65535
abbrev pub IsPort : ℕ → Type 0
IsPort port = (1 ≤ port) × (port ≤ 65535)

-- The words ask for this: the word after the program's own name is the name of the command, which has at most 16 workers, or it is
-- `worker`.
abbrev pub AsksFor : List (List ℕ) → Invocation → Type 0
AsksFor words (Run command path) = (slice_get words 1 ≡ Some (command_name command)) × HasFewWorkers command
AsksFor words (Work port) = (slice_get words 1 ≡ Some (codes "worker")) × IsPort port
