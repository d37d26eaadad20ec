use Rattle.pg_cli_command.proofs.Common.{◌≡◌, ◌++◌, take, flat_map, comma_number}
use Rattle.pg_cli_command.proofs.output.add_comma_numbers.Given as goal

-- the numbers so far stand behind what stood there
abbrev pub invariant-loop-number : goal.invariant-loop-number
invariant-loop-number l = l.line.items ≡ l.fn.line.items ++ flat_map comma_number (take l.number-index l.numbers)
