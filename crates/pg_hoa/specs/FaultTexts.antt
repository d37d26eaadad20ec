-- The texts of faults.
use Rattle.std.specs.Prelude.{ℕ, List, ◌++◌, codes, decimal}
use Rattle.pg_hoa_syntax.specs.FaultTexts.{left_out_text}
use Rattle.pg_hoa.specs.declared.fault.HoaFault.{HoaFault}
use Rattle.pg_hoa.specs.declared.fault.HoaFault.TheVariants.{OutOfMemory, Syntax, LeftOut, UnknownHeader, OutOfRange, NotParity}
use Rattle.pg_hoa.specs.declared.fault.HoaFault.TheVariants.{NotDeterministic, TooLarge, BadName}

abbrev pub fault_text : HoaFault → List ℕ
fault_text OutOfMemory = codes "out of memory"
fault_text (Syntax offset) = codes "syntax error at byte " ++ decimal offset
fault_text (LeftOut name offset) = left_out_text name ++ (codes " at byte " ++ (decimal offset ++ codes " is not supported"))
fault_text (UnknownHeader offset) = codes "unknown header at byte " ++ decimal offset
fault_text (OutOfRange offset) = codes "number out of range at byte " ++ decimal offset
fault_text NotParity = codes "acceptance is not a supported parity condition"
fault_text (NotDeterministic state letter) =
    codes "state " ++ (decimal state ++ (codes " is not deterministic at letter " ++ decimal letter))
fault_text TooLarge = codes "automaton too large"
fault_text (BadName proposition) = codes "bad name of proposition " ++ decimal proposition
