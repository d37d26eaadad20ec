-- The laws, as statements.
use Rattle.std.specs.Prelude.{◌≡◌, ◌↔◌, ℕ, Bool, true, false, List}
use Rattle.pg_ltl.specs.Formulas.{Formula, Satisfies}
use Rattle.pg_ltl.specs.NormalForms.{NormalForm, Holds, dual, normal}
use Rattle.pg_ltl.specs.Texts.{Spelt, StopsAt}
use Rattle.pg_ltl.specs.Tableaux.{Each, Choice, IsRight, IsLeftOut, choices}

-- wherever a formula holds, not all choices are wrong
abbrev pub Coverage : Type 0
Coverage = (word : ℕ → ℕ → Bool) (f : NormalForm) (t : ℕ) → Holds word f t → ¬ Each (λ c. ¬ IsRight word t c) (choices (word t) f)

-- the dual holds exactly where the formula doesn't
abbrev pub Duality : Type 0
Duality = (word : ℕ → ℕ → Bool) (f : NormalForm) (t : ℕ) → Holds word (dual f) t ↔ (¬ Holds word f t)

-- the normal form holds where the formula is satisfied, and the normal form of its negation where it isn't
pub record IsNormal (word : ℕ → ℕ → Bool) (f : Formula) (t : ℕ) : Type 0 where
  pub yes : Satisfies word f t ↔ Holds word (normal true f) t
  pub no : (¬ Satisfies word f t) ↔ Holds word (normal false f) t

abbrev pub Normality : Type 0
Normality = (word : ℕ → ℕ → Bool) (f : Formula) (t : ℕ) → IsNormal word f t

-- if the choices that are kept are all wrong, so are those that were left out
abbrev pub Pruning : Type 0
Pruning =
    (word : ℕ → ℕ → Bool) (t : ℕ) (all kept : List Choice) → Each (λ c. IsLeftOut c kept) all
    → Each (λ c. ¬ IsRight word t c) kept → Each (λ c. ¬ IsRight word t c) all

-- a text spells at most one formula, and gives its propositions one list of names
abbrev pub OneReading : Type 0
OneReading =
    (bytes : List ℕ) (names others : List (List ℕ)) (f g : Formula) → Spelt bytes names f → Spelt bytes others g
    → (names ≡ others) × (f ≡ g)

-- a text stops making sense at one byte at most
abbrev pub OneStop : Type 0
OneStop = (bytes : List ℕ) (m n : ℕ) → StopsAt bytes m → StopsAt bytes n → m ≡ n
