-- The texts of faults.
use Rattle.std.specs.Prelude.{ℕ, List, codes}
use Rattle.pg_synth.specs.declared.fault.SynthFault.{SynthFault}
use Rattle.pg_synth.specs.declared.fault.SynthFault.TheVariants.{OutOfMemory, TooLarge}

abbrev pub fault_text : SynthFault → List ℕ
fault_text OutOfMemory = codes "out of memory"
fault_text TooLarge = codes "game of the automaton too large"
