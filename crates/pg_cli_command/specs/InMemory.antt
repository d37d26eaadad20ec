-- The result of writing an answer to memory.
use Rattle.std.specs.Prelude.{Result, Ok, Err}
use Rattle.pg_cli_command.specs.declared.fault.CliFault.{CliFault}
use Rattle.pg_cli_command.specs.declared.fault.CliFault.TheVariants.{OutOfMemory, Write}

-- a write to memory fails only if memory runs out; any other fault stays as it is
abbrev pub memory_fault : CliFault → CliFault
memory_fault Write = OutOfMemory
memory_fault fault = fault

-- the output that was written, or the fault
abbrev pub in_memory : {Output : Type 0} → Result (Unit {0}) CliFault → Output → Result Output CliFault
in_memory (Ok done) output = Ok output
in_memory (Err fault) output = Err (memory_fault fault)
