-- Why a game has no solution.
use Rattle.std.specs.Prelude.{List}
use Rattle.pg_arena.specs.Games.{GameVertex}
use Rattle.pg_cli_command.specs.Measuring.{MapKind}
use Rattle.pg_cli_command.specs.Solving.{IsUndecidedIn}
use Rattle.pg_cli_command.specs.declared.fault.CliFault.{CliFault}
use Rattle.pg_cli_command.specs.declared.fault.CliFault.TheVariants.{OutOfMemory, Undecided}

-- memory ran out, or both maps are top at some vertex
abbrev pub IsUnsolved : MapKind → List GameVertex → CliFault → Type 0
IsUnsolved Kind game OutOfMemory = Unit {0}
IsUnsolved Kind game (Undecided id) = IsUndecidedIn Kind game id
IsUnsolved Kind game _ = ⊥
