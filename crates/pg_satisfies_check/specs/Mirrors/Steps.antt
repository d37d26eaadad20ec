-- Systems and what is known of their steps, as the code keeps them.
use Rattle.std.specs.Prelude.{◌≡◌, ℕ, Bool, List, [], ◌∷◌, ◌++◌, All, map, slice_index_or, Option, Some, None}
use Rattle.std.specs.Option.{option_to_list}
use Rattle.std.specs.declared.vec.Vec.{Vec}
use Rattle.std.specs.declared.alloc.Global.{Global}
use Rattle.pg_aiger.specs.declared.gate.Latch.{Latch}
use Rattle.pg_aiger.specs.Circuits.{Circuit}
use Rattle.pg_aiger.specs.Runs.{Valuation, value}
use Rattle.pg_satisfies_check.specs.declared.system.Bit.{Bit}
use Rattle.pg_satisfies_check.specs.declared.system.CircuitPart.{CircuitPart}
use Rattle.pg_satisfies_check.specs.declared.cube.LatchCube.{LatchCube}
use Rattle.pg_satisfies_check.specs.Certificates.{IsStep, AreBits}
use Rattle.pg_satisfies_check.specs.Mirrors.Known.{IsKnown}

abbrev pub circuit_of : CircuitPart → Circuit
circuit_of s = record { greatest = 0; inputs = []; latches = s.latches.items; outputs = []; gates = s.gates.items }

abbrev pub literal_at : CircuitPart → ℕ → ℕ
literal_at s p = slice_index_or s.literals.items p 0

-- the next literals of the latches, and then the literals of the propositions
abbrev pub spoken_of : CircuitPart → List ℕ
spoken_of s = map Latch.next s.latches.items ++ s.literals.items

-- the values of these literals
abbrev pub view : List ℕ → Valuation → Valuation
view literals u k = value u (slice_index_or literals k 0)

-- the values of the system's literals are as the row says
abbrev pub IsSeen : CircuitPart → List (Option Bool) → Valuation → Type 0
IsSeen s row u = IsKnown row (view (spoken_of s) u)

abbrev pub Rows : Type 0
Rows = List (Vec (Option Bool) Global)

-- no row of variables is right
abbrev pub NoneKnown : Rows → Valuation → Type 0
NoneKnown rows u = All (λ (row : Vec (Option Bool) Global). ¬ IsKnown row.items u) rows

-- no row of the system's literals is right
abbrev pub NoneSeen : CircuitPart → Rows → Valuation → Type 0
NoneSeen s rows u = All (λ (row : Vec (Option Bool) Global). ¬ IsSeen s row.items u) rows

-- in each step in which the latches have these values, some row is right
abbrev pub ArePieces : CircuitPart → List Bit → Rows → Type 0
ArePieces s bits rows = (u : Valuation) → IsStep (circuit_of s) u → AreBits s.latches.items u bits → ¬ NoneSeen s rows u

abbrev pub IsCube : CircuitPart → LatchCube → Type 0
IsCube s cube = ArePieces s cube.bits.items cube.rows.items

-- in each step with what is known in which the literal has the value, this is known; or there is no such step
abbrev pub Assumes : CircuitPart → List (Option Bool) → ℕ → Bool → Option (Vec (Option Bool) Global) → Type 0
Assumes s row l is None = (u : Valuation) → IsStep (circuit_of s) u → IsKnown row u → value u l ≡ is → ⊥
Assumes s row l is (Some new) =
    (u : Valuation) → IsStep (circuit_of s) u → IsKnown row u → value u l ≡ is → IsKnown new.items u

-- this is known in each step in which the latches have these values; or there is no such step
abbrev pub Begins : CircuitPart → List Bit → Option (Vec (Option Bool) Global) → Type 0
Begins s bits None = (u : Valuation) → IsStep (circuit_of s) u → AreBits s.latches.items u bits → ⊥
Begins s bits (Some row) = (u : Valuation) → IsStep (circuit_of s) u → AreBits s.latches.items u bits → IsKnown row.items u

-- the stack has the row on top, if there is one
abbrev pub HasRow : Rows → Option (Vec (Option Bool) Global) → Rows → Type 0
HasRow old row new = new ≡ old ++ option_to_list row

-- where no row is right now, the row wasn't, nor was any other one
pub record WereWrong (s : CircuitPart) (known : List (Option Bool)) (waiting kept : Rows) (u : Valuation) : Type 0 where
  pub row : ¬ IsKnown known u
  pub stack : NoneKnown waiting u
  pub rows : NoneSeen s kept u

abbrev pub KeepsRows : CircuitPart → List (Option Bool) → Rows → Rows → Rows → Rows → Type 0
KeepsRows s row old_stack old_rows stack rows =
    (u : Valuation) → IsStep (circuit_of s) u → NoneKnown stack u → NoneSeen s rows u → WereWrong s row old_stack old_rows u

-- where no row is right now, the new row isn't, nor was any other one
abbrev pub KeepsSeen : List (Option Bool) → Rows → Rows → Type 0
KeepsSeen row old new = (s : CircuitPart) (u : Valuation) → NoneSeen s new u → (¬ IsSeen s row u) × NoneSeen s old u
