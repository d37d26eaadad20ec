-- Steps that can fail, and the results of functions that make them: helpers of proofs.
use Rattle.std.specs.Prelude.{◌≡◌, ℕ, ◌-◌, Option, Some, None, Result, Ok, Err}
use Rattle.pg_aiger_reader.specs.declared.fault.ReaderFault.{ReaderFault}
use Rattle.pg_aiger_reader.specs.declared.fault.ReaderFault.TheVariants.{OutOfMemory, Syntax, NumberTooLarge}

-- Reading fails as a function refuses, unless memory ran out. It names no fault.
abbrev pub Fails : {Y : Type 0} → ReaderFault → Option Y → Type 0
Fails OutOfMemory read = Unit {0}
Fails (Syntax left) read = read ≡ None
Fails (NumberTooLarge left) read = read ≡ None
Fails _ read = ⊥

-- The result of a function, seen through `view`, is what reading gives, unless memory ran out.
abbrev pub Gives : {X Y : Type 0} → (X → Y) → Result X ReaderFault → Option Y → Type 0
Gives view (Ok x) read = read ≡ Some (view x)
Gives view (Err e) read = Fails e read

-- reading fails as a function refuses, unless memory ran out; if reading names a fault, it is the function's
abbrev pub FailsAs : {Y : Type 0} → Option ReaderFault → ReaderFault → Option Y → Type 0
FailsAs named OutOfMemory read = Unit {0}
FailsAs named (Syntax left) read = (read ≡ None) × (named ≡ None)
FailsAs named (NumberTooLarge left) read = (read ≡ None) × (named ≡ None)
FailsAs named fault read = (read ≡ None) × (named ≡ Some fault)

abbrev pub GivesAs : {X Y : Type 0} → (X → Y) → Option ReaderFault → Result X ReaderFault → Option Y → Type 0
GivesAs view named (Ok x) read = (read ≡ Some (view x)) × (named ≡ None)
GivesAs view named (Err e) read = FailsAs named e read

-- the first fault that is named
abbrev pub first_named : Option ReaderFault → Option ReaderFault → Option ReaderFault
first_named None later = later
first_named (Some fault) later = Some fault

-- with an offset from the start, in a text of `len` bytes
abbrev pub turned : ℕ → ReaderFault → ReaderFault
turned len (Syntax left) = Syntax (len - left)
turned len (NumberTooLarge left) = NumberTooLarge (len - left)
turned len fault = fault
