-- The texts of faults.
use Rattle.std.specs.Prelude.{ℕ, List, ◌++◌, codes, decimal}
use Rattle.pg_arena.specs.FaultTexts as arena
use Rattle.pg_text.specs.declared.fault.TextFault.{TextFault}
use Rattle.pg_text.specs.declared.fault.TextFault.TheVariants.{OutOfMemory, Syntax, NumberTooLarge, Arena, NotOfGame, Missing, Write}

abbrev pub fault_text : TextFault → List ℕ
fault_text OutOfMemory = codes "out of memory"
fault_text (Syntax offset) = codes "syntax error at byte " ++ decimal offset
fault_text (NumberTooLarge offset) = codes "number too large at byte " ++ decimal offset
fault_text (Arena fault) = arena.fault_text fault
fault_text (NotOfGame id) = codes "line of vertex " ++ (decimal id ++ codes " does not fit the game")
fault_text (Missing id) = codes "vertex " ++ (decimal id ++ codes " has no answer")
fault_text Write = codes "cannot write the output"
