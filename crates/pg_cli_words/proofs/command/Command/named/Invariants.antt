use Rattle.std.proofs.Common.{◌≢◌, ℕ, ◌<◌, get_or}
use Rattle.pg_cli_words.specs.Commands.{command_name}
use Rattle.pg_cli_words.specs.declared.command.Command.TheVariants.{Check}
use Rattle.pg_cli_words.proofs.command.Command.named.Given as goal

abbrev pub invariant-loop-command : goal.invariant-loop-command
invariant-loop-command l =
    (k : ℕ) → k < l.command-index → l.name ≢ command_name (get_or l.command-items k Check)
