-- The names of the parts of HOA v1 that the reader doesn't support.
use Rattle.std.specs.Prelude.{ℕ, List, codes}
use Rattle.pg_hoa_syntax.specs.declared.fault.LeftOutName.{LeftOutName}
use Rattle.pg_hoa_syntax.specs.declared.fault.LeftOutName.TheVariants.{Alias, StateLabel, ImplicitLabel, Universal, SeveralStarts, NoStart}
use Rattle.pg_hoa_syntax.specs.declared.fault.LeftOutName.TheVariants.{NegatedSet, SeveralAutomata, Abort}

abbrev pub left_out_text : LeftOutName → List ℕ
left_out_text Alias = codes "alias"
left_out_text StateLabel = codes "state label"
left_out_text ImplicitLabel = codes "implicit label"
left_out_text Universal = codes "universal branching"
left_out_text SeveralStarts = codes "second Start"
left_out_text NoStart = codes "missing Start"
left_out_text NegatedSet = codes "negated set"
left_out_text SeveralAutomata = codes "second automaton"
left_out_text Abort = codes "--ABORT--"
