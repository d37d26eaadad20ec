-- Steps that may fail.
use Rattle.std.specs.Prelude.{◌≡◌, Option, Some, None, Result, Ok, Err}
use Rattle.pg_hoa_syntax.specs.declared.fault.PartRefusal.{PartRefusal}
use Rattle.pg_hoa_syntax.specs.declared.fault.PartRefusal.TheVariants.{Memory, Wrong}

-- What a function returned, seen by view, is what reading gives, unless memory ran out.
abbrev pub Fails : {Y : Type 0} → PartRefusal → Option Y → Type 0
Fails Memory read = Unit {0}
Fails (Wrong fault) read = read ≡ None

abbrev pub Gives : {X Y : Type 0} → (X → Y) → Result X PartRefusal → Option Y → Type 0
Gives view (Ok x) read = read ≡ Some (view x)
Gives view (Err e) read = Fails e read
