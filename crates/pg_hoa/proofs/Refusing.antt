-- Bytes that are refused spell no automaton.
use Rattle.pg_hoa.proofs.Common.{ℕ, List, ◌^◌, length, Automaton, PartFault, Syntax, LeftOut, UnknownHeader, OutOfRange, NotParity}
use Rattle.pg_hoa.proofs.Common.{TooLarge, BadName, PartRefusal, SaysNone, KeptLine, Declares, SaysNothing, Conflict, Memory, NotDeterministic}
use Rattle.pg_hoa.proofs.Common.{SpellsNone, IsRefused, in_text, refusal_in_text, conflict_fault, IsConflictOf}
use Rattle.pg_hoa_syntax.specs.declared.fault.PartRefusal.TheVariants as refusals
use Rattle.pg_hoa.proofs.Assembling.{first_undetermined}
use Rattle.pg_hoa.proofs.SpeltOnce.{says_spell_none, undetermined_spell_none}

-- what says none spells none
none_at_all : (bytes : List ℕ) → SaysNone bytes → SaysNone bytes × SpellsNone bytes
none_at_all bytes none = (none, says_spell_none bytes none)

part_refused : (bytes : List ℕ) (len : ℕ) (fault : PartFault) → SaysNone bytes → IsRefused bytes (in_text len fault)
part_refused bytes len (Syntax left) none = none_at_all bytes none
part_refused bytes len (LeftOut name left) none = none_at_all bytes none
part_refused bytes len (UnknownHeader left) none = none_at_all bytes none
part_refused bytes len (OutOfRange left) none = none_at_all bytes none
part_refused bytes len NotParity none = none_at_all bytes none
part_refused bytes len TooLarge none = none_at_all bytes none
part_refused bytes len (BadName proposition) none = none_at_all bytes none

pub refusal_refused : (bytes : List ℕ) (len : ℕ) (refusal : PartRefusal) → SaysNothing bytes refusal
    → IsRefused bytes (refusal_in_text len refusal)
refusal_refused bytes len refusals.Memory none = tt
refusal_refused bytes len (refusals.Wrong fault) none = part_refused bytes len fault none

pub conflict_refused : (bytes : List ℕ) (b : Automaton) (lines : List KeptLine) (conflict : Conflict) → Declares bytes b lines
    → IsConflictOf b.shape lines b.states (2 ^ length b.propositions) conflict → IsRefused bytes (conflict_fault conflict)
conflict_refused bytes b lines Memory d is = tt
conflict_refused bytes b lines (NotDeterministic state letter) d is =
    let undetermined = first_undetermined bytes b lines state letter d is in
    (undetermined, undetermined_spell_none bytes state letter undetermined)
