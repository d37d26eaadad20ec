-- Lists in which each item is in its ranges and fits after those before it.
use Rattle.std.proofs.Common.{arith}
use Rattle.std.specs.Prelude.{ℕ, ◌+◌, ◌<◌, ◌≤◌, ⊤, List, All}
use Rattle.std.specs.List.{AllPairs}

-- each item fits at the first place, is in its ranges, and precedes each later one
pub record AreOrdered {A : Type 0} (Stands : A → Type 0) (IsItem : A → Type 0) (Precedes : A → A → Type 0) (xs : List A) : Type 0 where
  pub stand : All Stands xs
  pub items : All IsItem xs
  pub order : AllPairs Precedes xs

-- how the items of a kind follow each other
pub record Steps {A : Type 0} (Stands : ℕ → A → Type 0) (Precedes : A → A → Type 0) (next : A → ℕ) : Type 0 where
  pub forth : (x y : A) → Stands (next x) y → Precedes x y
  pub back : (x y : A) → Precedes x y → Stands (next x) y
  pub later : (at : ℕ) (x y : A) → Stands at x → Precedes x y → Stands at y

-- items whose keys rise, items whose keys fall, and items in any order
pub rising : {A : Type 0} (key : A → ℕ) → Steps (λ at x. at ≤ key x) (λ x y. key x < key y) (λ x. key x + 1)
rising key = record { forth = λ x y h. Prim.omega arith; back = λ x y h. Prim.omega arith; later = λ at x y h k. Prim.omega arith }

pub falling : {A : Type 0} (key : A → ℕ) → Steps (λ at x. key x < at) (λ x y. key y < key x) key
falling key = record { forth = λ x y h. h; back = λ x y h. h; later = λ at x y h k. Prim.omega arith }

pub in_any_order : {A : Type 0} → Steps {A = A} (λ _ _. ⊤) (λ _ _. ⊤) (λ _. 0)
in_any_order = record { forth = λ x y h. tt; back = λ x y h. tt; later = λ at x y h k. tt }
