-- The texts of the faults of scripts.
use Rattle.std.specs.Prelude.{ℕ, List, ◌++◌, codes, decimal}
use Rattle.pg_world.specs.declared.script_fault.ScriptFault.{ScriptFault}
use Rattle.pg_world.specs.declared.script_fault.ScriptFault.TheVariants.{OutOfMemory, Syntax, NumberTooLarge, NoVertex, CutMismatch}

abbrev pub fault_text : ScriptFault → List ℕ
fault_text OutOfMemory = codes "out of memory"
fault_text (Syntax offset) = codes "syntax error at byte " ++ decimal offset
fault_text (NumberTooLarge offset) = codes "number too large at byte " ++ decimal offset
fault_text (NoVertex id) = codes "no vertex " ++ decimal id
fault_text CutMismatch = codes "the cut does not fit the game"
