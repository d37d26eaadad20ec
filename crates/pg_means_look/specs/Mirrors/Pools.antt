-- Pools of lists of choices, and what each list is made of.
use Rattle.std.specs.Prelude.{◌≡◌, ℕ, ◌<◌, ◌≤◌, Bool, List, [], ◌∷◌, ◌++◌, All, map, length, slice_index_or}
use Rattle.std.specs.declared.vec.Vec.{Vec}
use Rattle.std.specs.declared.alloc.Global.{Global}
use Rattle.pg_ltl.specs.NormalForms.{NormalForm}
use Rattle.pg_ltl.specs.Tableaux.{Choice, free, asked, put_off, product, choices, choices_of}
use Rattle.pg_means_look.specs.declared.choice.Choice as own
use Rattle.pg_means_look.specs.declared.pool.Origin.{Origin}
use Rattle.pg_means_look.specs.declared.pool.Origin.TheVariants.{Free, Nothing, Asked, PutOff, Product, Union}
use Rattle.pg_means_look.specs.declared.pool.Pooled.{Pooled}
use Rattle.pg_means_look.specs.Mirrors.Tables.{row_at}
use Rattle.pg_means_look.specs.Mirrors.Choices.{part, parts, choices_in, AreCovered}

-- the list with this number, or an empty one past the end
abbrev pub list_at : List Pooled → ℕ → List own.Choice
list_at lists n = slice_index_or (map (λ (x : Pooled). x.list.items) lists) n []

-- the choices of an origin, given the lists of a pool
abbrev pub made : List NormalForm → List Pooled → Origin → List Choice
made forms lists Free = free ∷ []
made forms lists Nothing = []
made forms lists (Asked place) = asked (part forms place) ∷ []
made forms lists (PutOff place) = put_off (part forms place) ∷ []
made forms lists (Product a b) = product (choices_in forms (list_at lists a)) (choices_in forms (list_at lists b))
made forms lists (Union a b) = choices_in forms (list_at lists a) ++ choices_in forms (list_at lists b)

-- the lists that the origin names are among the first `count`
abbrev pub IsWithin : ℕ → Origin → Type 0
IsWithin count Free = Unit {0}
IsWithin count Nothing = Unit {0}
IsWithin count (Asked place) = Unit {0}
IsWithin count (PutOff place) = Unit {0}
IsWithin count (Product a b) = (a < count) × (b < count)
IsWithin count (Union a b) = (a < count) × (b < count)

pub record IsMade (forms : List NormalForm) (lists : List Pooled) (x : Pooled) : Type 0 where
  pub within : IsWithin (length lists) x.origin
  pub covers : AreCovered (choices_in forms x.list.items) (made forms lists x.origin)

-- each list covers the choices of its origin
abbrev pub IsPool : List NormalForm → List Pooled → Type 0
IsPool forms lists = All (IsMade forms lists) lists

-- the list with this number covers these choices
pub record Stands (forms : List NormalForm) (lists : List Pooled) (all : List Choice) (n : ℕ) : Type 0 where
  pub below : n < length lists
  pub covers : AreCovered (choices_in forms (list_at lists n)) all

-- the list with this number has the origin
pub record IsAt (lists : List Pooled) (origin : Origin) (n : ℕ) : Type 0 where
  pub below : n < length lists
  pub found : Pooled
  pub at : found ≡ slice_index_or lists n found
  pub same : found.origin ≡ origin

-- each list keeps its number
pub record Grows (old new : List Pooled) : Type 0 where
  pub more : length old ≤ length new
  pub same : (n : ℕ) → n < length old → list_at new n ≡ list_at old n

-- what was pooled stays, and the list with this number covers these choices
pub record Has (forms : List NormalForm) (old new : List Pooled) (all : List Choice) (n : ℕ) : Type 0 where
  pub is : IsPool forms new
  pub grows : Grows old new
  pub stands : Stands forms new all n

-- for each formula, the number of a list of its choices at the letter
abbrev pub AreRows : (ℕ → Bool) → List NormalForm → List Pooled → List ℕ → Type 0
AreRows letter forms lists rows =
    (place : ℕ) → place < length rows → Stands forms lists (choices letter (part forms place)) (slice_index_or rows place 0)

-- for each set, the number of a list of its choices at the letter
abbrev pub AreNumbers : (ℕ → Bool) → List NormalForm → List (Vec ℕ Global) → List Pooled → List ℕ → Type 0
AreNumbers letter forms sets lists numbers =
    (s : ℕ) → s < length numbers → Stands forms lists (choices_of letter (parts forms (row_at sets s))) (slice_index_or numbers s 0)
