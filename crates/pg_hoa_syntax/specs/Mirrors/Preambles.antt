-- What the headers say once all of them are read, and what may follow the last line.
use Rattle.std.specs.Prelude.{◌≡◌, ℕ, ◌<◌, ◌==◌, Bool, List, [], ◌∷◌, length, map, Option, Some, None}
use Rattle.std.specs.List.{All, list_any, range_with_len}
use Rattle.pg_hoa_syntax.specs.declared.formula.Op.{Op}
use Rattle.pg_hoa_automaton.specs.declared.shape.Shape.{Shape}
use Rattle.pg_hoa_syntax.specs.declared.preamble.Preamble as rust
use Rattle.pg_hoa_syntax.specs.declared.fault.PartRefusal.{PartRefusal}
use Rattle.pg_hoa_syntax.specs.declared.fault.PartRefusal.TheVariants.{Memory, Wrong}
use Rattle.pg_hoa_syntax.specs.Lexemes.{Lexeme}
use Rattle.pg_hoa_syntax.specs.Mirrors.FormulaRun.{postfix}
use Rattle.pg_hoa_automaton.specs.Formulas.{Formula}
use Rattle.pg_hoa_automaton.specs.Shapes.{HasShape}
use Rattle.pg_hoa_syntax.specs.Mirrors.Kept.{KeptHead}

pub record Preamble : Type 0 where
  pub states : Option ℕ
  pub start : ℕ
  pub names : List (List ℕ)
  pub controllable : List Bool
  pub sets : ℕ
  pub shape : Shape

abbrev pub preamble_in : rust.Preamble → Preamble
preamble_in s = record {
  states = s.states;
  start = s.start;
  names = map (λ name. name.items) s.names.items;
  controllable = s.controllable.items;
  sets = s.sets;
  shape = s.shape;
}

-- the list of a header that may be absent
abbrev pub listed : {A : Type 0} → Option (List A) → List A
listed None = []
listed (Some xs) = xs

-- for each of the given number of propositions, whether its number is in the list
abbrev pub marked : List ℕ → ℕ → List Bool
marked controls count = map (λ p. list_any (λ n. n == p) controls) (range_with_len 0 count)

abbrev pub StartsBelow : ℕ → Option ℕ → Type 0
StartsBelow start None = Unit {0}
StartsBelow start (Some states) = start < states

-- every required header is there, the numbers are in range, and the condition has this shape
pub record IsPreambleOf (h : KeptHead) (s : Preamble) : Type 0 where
  pub states : s.states ≡ h.states
  pub start : h.start ≡ Some s.start
  pub start_below : StartsBelow s.start h.states
  pub names : s.names ≡ listed h.names
  pub controls_below : All (λ n. n < length (listed h.names)) (listed h.controls)
  pub controllable : s.controllable ≡ marked (listed h.controls) (length (listed h.names))
  pub condition : Formula
  pub acceptance : h.acceptance ≡ Some (s.sets, postfix condition)
  pub shape : HasShape condition s.sets s.shape

-- the operations that were kept are those of a condition
abbrev pub HasCondition : Option (ℕ × List Op) → Type 0
HasCondition None = Unit {0}
HasCondition (Some x) = (f : Formula) × (x.1 ≡ postfix f)

-- only running out of memory refuses a head that has a preamble
abbrev pub HasNoPreamble : KeptHead → PartRefusal → Type 0
HasNoPreamble h Memory = Unit {0}
HasNoPreamble h (Wrong fault) = (s : Preamble) → IsPreambleOf h s → ⊥

-- no token is left
abbrev pub nothing_at : List Lexeme → Option ℕ
nothing_at [] = Some 0
nothing_at (t ∷ rest) = None
