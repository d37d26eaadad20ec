-- Faults of a whole text.
use Rattle.std.specs.Prelude.{ℕ, ◌-◌}
use Rattle.pg_hoa.specs.declared.fault.HoaFault.{HoaFault}
use Rattle.pg_hoa.specs.declared.fault.HoaFault.TheVariants as faults
use Rattle.pg_hoa_syntax.specs.declared.fault.PartFault.{PartFault}
use Rattle.pg_hoa_syntax.specs.declared.fault.PartFault.TheVariants.{Syntax, LeftOut, UnknownHeader, OutOfRange, NotParity, TooLarge, BadName}
use Rattle.pg_hoa_syntax.specs.declared.fault.PartRefusal.{PartRefusal}
use Rattle.pg_hoa_syntax.specs.declared.fault.PartRefusal.TheVariants as refusals
use Rattle.pg_hoa.specs.declared.fault.Conflict.{Conflict}
use Rattle.pg_hoa.specs.declared.fault.Conflict.TheVariants.{Memory, NotDeterministic}

-- the fault in a text of the given number of bytes; instead of an offset, the part has the number of bytes that are
-- left
abbrev pub in_text : ℕ → PartFault → HoaFault
in_text len (Syntax left) = faults.Syntax (len - left)
in_text len (LeftOut name left) = faults.LeftOut name (len - left)
in_text len (UnknownHeader left) = faults.UnknownHeader (len - left)
in_text len (OutOfRange left) = faults.OutOfRange (len - left)
in_text len NotParity = faults.NotParity
in_text len TooLarge = faults.TooLarge
in_text len (BadName proposition) = faults.BadName proposition

abbrev pub refusal_in_text : ℕ → PartRefusal → HoaFault
refusal_in_text len refusals.Memory = faults.OutOfMemory
refusal_in_text len (refusals.Wrong fault) = in_text len fault

abbrev pub conflict_fault : Conflict → HoaFault
conflict_fault Memory = faults.OutOfMemory
conflict_fault (NotDeterministic state letter) = faults.NotDeterministic state letter
