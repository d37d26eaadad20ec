-- The texts of faults.
use Rattle.std.specs.Prelude.{ℕ, List, codes}
use Rattle.pg_aiger.specs.declared.fault.AigerFault.{AigerFault}
use Rattle.pg_aiger.specs.declared.fault.AigerFault.TheVariants.{OutOfMemory, TooLarge, Write}

abbrev pub fault_text : AigerFault → List ℕ
fault_text OutOfMemory = codes "out of memory"
fault_text TooLarge = codes "circuit too large"
fault_text Write = codes "cannot write the output"
