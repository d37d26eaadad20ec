-- The input of a command, as the code keeps it.
use Rattle.std.specs.Prelude.{◌≤◌, length}
use Rattle.pg_cli_request.specs.declared.input.Given.{Given}
use Rattle.pg_cli_request.specs.declared.input.Given.TheVariants as given
use Rattle.pg_cli_request.specs.Inputs.{Input, Whole, Apart}

abbrev pub input_of : Given → Input
input_of (given.Whole text) = Whole text.items
input_of (given.Apart pair first second) = Apart pair first.items second.items

-- one text as the whole input is within the limit of an input
abbrev pub IsWithin : Given → Type 0
IsWithin (given.Whole text) = length text.items ≤ 268435456
IsWithin (given.Apart pair first second) = Unit {0}
