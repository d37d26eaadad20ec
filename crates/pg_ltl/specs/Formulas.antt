-- Formulas as people write them, and which words satisfy them. What a letter doesn't decide is stated by negation, so that a formula that
-- can't fail is satisfied.
use Rattle.std.specs.Prelude.{◌≡◌, ℕ, ◌+◌, ◌<◌, ◌≤◌, Bool, true}
use Rattle.pg_ltl.specs.declared.formula.Prefix.{Prefix}
use Rattle.pg_ltl.specs.declared.formula.Prefix.TheVariants.{Not, Next, Finally, Globally}
use Rattle.pg_ltl.specs.declared.formula.Infix.{Infix}
use Rattle.pg_ltl.specs.declared.formula.Infix.TheVariants.{Implies, Equivalent, Or, Exclusive, And, Until, Release, Weak, Strong, Also}

pub data Formula : Type 0 where
  constant : Bool → Formula
  -- a proposition, by its number in the list of names
  proposition : ℕ → Formula
  bracket : Formula → Formula
  one : Prefix → Formula → Formula
  two : Infix → Formula → Formula → Formula

-- P holds from t on, up to but not including s
abbrev pub Lasts : (ℕ → Type 0) → ℕ → ℕ → Type 0
Lasts P t s = (r : ℕ) → t ≤ r → r < s → P r

-- the formula is satisfied from step t on of the word; `word t p` says whether the proposition p holds at step t
abbrev pub Satisfies : (ℕ → ℕ → Bool) → Formula → ℕ → Type 0
Satisfies word (constant value) t = value ≡ true
Satisfies word (proposition p) t = word t p ≡ true
Satisfies word (bracket f) t = Satisfies word f t
Satisfies word (one Not f) t = ¬ Satisfies word f t
Satisfies word (one Next f) t = Satisfies word f (t + 1)
Satisfies word (one Finally f) t = ¬ ((s : ℕ) → t ≤ s → ¬ Satisfies word f s)
Satisfies word (one Globally f) t = (s : ℕ) → t ≤ s → Satisfies word f s
Satisfies word (two Implies f g) t = Satisfies word f t → Satisfies word g t
Satisfies word (two Equivalent f g) t = (Satisfies word f t → Satisfies word g t) × (Satisfies word g t → Satisfies word f t)
Satisfies word (two Exclusive f g) t = ¬ ((Satisfies word f t → Satisfies word g t) × (Satisfies word g t → Satisfies word f t))
Satisfies word (two Or f g) t = ¬ ((¬ Satisfies word f t) × (¬ Satisfies word g t))
Satisfies word (two And f g) t = Satisfies word f t × Satisfies word g t
Satisfies word (two Also f g) t = Satisfies word f t × Satisfies word g t
-- g at some step, and f until then
Satisfies word (two Until f g) t = ¬ ((s : ℕ) → t ≤ s → Lasts (λ r. Satisfies word f r) t s → ¬ Satisfies word g s)
-- g as long as f hasn't held before
Satisfies word (two Release f g) t = (s : ℕ) → t ≤ s → Lasts (λ r. ¬ Satisfies word f r) t s → Satisfies word g s
-- f as long as g hasn't held yet
Satisfies word (two Weak f g) t = (s : ℕ) → t ≤ s → Lasts (λ r. ¬ Satisfies word g r) t (s + 1) → Satisfies word f s
-- f at some step, and g until then and at that step too
Satisfies word (two Strong f g) t = ¬ ((s : ℕ) → t ≤ s → Lasts (λ r. Satisfies word g r) t (s + 1) → ¬ Satisfies word f s)

-- every proposition has a number below this one
abbrev pub SpeaksOf : ℕ → Formula → Type 0
SpeaksOf names (constant value) = Unit {0}
SpeaksOf names (proposition p) = p < names
SpeaksOf names (bracket f) = SpeaksOf names f
SpeaksOf names (one op f) = SpeaksOf names f
SpeaksOf names (two op f g) = SpeaksOf names f × SpeaksOf names g
