-- Negation normal form, and from which steps on a formula in this form holds on an endless word.
use Rattle.std.specs.Prelude.{◌≡◌, ℕ, ◌+◌, ◌≤◌, Bool, true, false}
use Rattle.pg_ltl.specs.declared.formula.Prefix.TheVariants.{Not, Next, Finally, Globally}
use Rattle.pg_ltl.specs.declared.formula.Infix.TheVariants.{Implies, Equivalent, Or, Exclusive, And, Until, Release, Weak, Strong, Also}
use Rattle.pg_ltl.specs.Formulas.{Formula, constant, proposition, bracket, one, two, Lasts}

pub data NormalForm : Type 0 where
  top : NormalForm
  bottom : NormalForm
  literal : ℕ → Bool → NormalForm
  both : NormalForm → NormalForm → NormalForm
  either : NormalForm → NormalForm → NormalForm
  next : NormalForm → NormalForm
  until : NormalForm → NormalForm → NormalForm
  release : NormalForm → NormalForm → NormalForm

-- the formula holds from step t on of the word; `word t p` says whether the proposition p holds at step t
abbrev pub Holds : (ℕ → ℕ → Bool) → NormalForm → ℕ → Type 0
Holds word top t = Unit {0}
Holds word bottom t = ⊥
Holds word (literal p value) t = word t p ≡ value
Holds word (both f g) t = Holds word f t × Holds word g t
Holds word (either f g) t = ¬ ((¬ Holds word f t) × (¬ Holds word g t))
Holds word (next f) t = Holds word f (t + 1)
Holds word (until f g) t = ¬ ((s : ℕ) → t ≤ s → Lasts (λ r. Holds word f r) t s → ¬ Holds word g s)
Holds word (release f g) t = (s : ℕ) → t ≤ s → Lasts (λ r. ¬ Holds word f r) t s → Holds word g s

abbrev pub opposite : Bool → Bool
opposite true = false
opposite false = true

abbrev pub dual : NormalForm → NormalForm
dual top = bottom
dual bottom = top
dual (literal p value) = literal p (opposite value)
dual (both f g) = either (dual f) (dual g)
dual (either f g) = both (dual f) (dual g)
dual (next f) = next (dual f)
dual (until f g) = release (dual f) (dual g)
dual (release f g) = until (dual f) (dual g)

-- the formula, or its negation, in negation normal form
abbrev pub normal : Bool → Formula → NormalForm
normal true (constant true) = top
normal true (constant false) = bottom
normal false (constant true) = bottom
normal false (constant false) = top
normal positive (proposition p) = literal p positive
normal positive (bracket f) = normal positive f
normal positive (one Not f) = normal (opposite positive) f
normal positive (one Next f) = next (normal positive f)
normal true (one Finally f) = until top (normal true f)
normal false (one Finally f) = release bottom (normal false f)
normal true (one Globally f) = release bottom (normal true f)
normal false (one Globally f) = until top (normal false f)
normal true (two Implies f g) = either (normal false f) (normal true g)
normal false (two Implies f g) = both (normal true f) (normal false g)
normal true (two Equivalent f g) = either (both (normal true f) (normal true g)) (both (normal false f) (normal false g))
normal false (two Equivalent f g) = either (both (normal true f) (normal false g)) (both (normal false f) (normal true g))
normal true (two Exclusive f g) = either (both (normal true f) (normal false g)) (both (normal false f) (normal true g))
normal false (two Exclusive f g) = either (both (normal true f) (normal true g)) (both (normal false f) (normal false g))
normal true (two Or f g) = either (normal true f) (normal true g)
normal false (two Or f g) = both (normal false f) (normal false g)
normal true (two And f g) = both (normal true f) (normal true g)
normal false (two And f g) = either (normal false f) (normal false g)
normal true (two Also f g) = both (normal true f) (normal true g)
normal false (two Also f g) = either (normal false f) (normal false g)
normal true (two Until f g) = until (normal true f) (normal true g)
normal false (two Until f g) = release (normal false f) (normal false g)
normal true (two Release f g) = release (normal true f) (normal true g)
normal false (two Release f g) = until (normal false f) (normal false g)
normal true (two Weak f g) = release (normal true g) (either (normal true f) (normal true g))
normal false (two Weak f g) = until (normal false g) (both (normal false f) (normal false g))
normal true (two Strong f g) = until (normal true g) (both (normal true f) (normal true g))
normal false (two Strong f g) = release (normal false g) (either (normal false f) (normal false g))
