-- The texts of faults.
use Rattle.std.specs.Prelude.{ℕ, List, ◌++◌, codes, decimal}
use Rattle.pg_ltl.specs.declared.fault.FormulaFault.{FormulaFault}
use Rattle.pg_ltl.specs.declared.fault.FormulaFault.TheVariants.{OutOfMemory, Syntax, TooManyNames, TooManyOperators}

abbrev pub fault_text : FormulaFault → List ℕ
fault_text OutOfMemory = codes "out of memory"
fault_text (Syntax offset) = codes "syntax error at byte " ++ decimal offset
fault_text TooManyNames = codes "more than 65535 propositions"
fault_text TooManyOperators = codes "more than 4096 operators"
