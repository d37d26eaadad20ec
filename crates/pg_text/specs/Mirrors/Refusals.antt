-- How the faults of the parts are reported.
use Rattle.std.specs.Prelude.{ℕ, ◌-◌}
use Rattle.pg_arena.specs.declared.fault.ArenaFault.{ArenaFault}
use Rattle.pg_arena.specs.declared.fault.ArenaFault.TheVariants as arena
use Rattle.pg_text.specs.declared.tokens.TokenFault.{TokenFault}
use Rattle.pg_text.specs.declared.tokens.TokenFault.TheVariants as tokens
use Rattle.pg_text.specs.declared.reading.Refusal.{Refusal}
use Rattle.pg_text.specs.declared.reading.Refusal.TheVariants.{Memory, Token}
use Rattle.pg_text.specs.declared.fault.TextFault.{TextFault}
use Rattle.pg_text.specs.declared.fault.TextFault.TheVariants.{OutOfMemory, Syntax, NumberTooLarge, Arena}

-- running out of memory below is running out of memory here
abbrev pub arena_fault : ArenaFault → TextFault
arena_fault arena.OutOfMemory = OutOfMemory
arena_fault fault = Arena fault

-- the fault in a text of this many bytes: an offset is the length minus the number of bytes left
abbrev pub token_fault_of : ℕ → TokenFault → TextFault
token_fault_of len (tokens.Syntax left) = Syntax (len - left)
token_fault_of len (tokens.NumberTooLarge left) = NumberTooLarge (len - left)

abbrev pub fault_of : ℕ → Refusal → TextFault
fault_of len Memory = OutOfMemory
fault_of len (Token fault) = token_fault_of len fault
