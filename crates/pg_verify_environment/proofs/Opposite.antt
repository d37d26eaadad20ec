-- Conditions of a shape and of the opposite one.
use Rattle.std.proofs.Common.{◌≡◌, ℕ, suc, zero, ◌+◌, ◌-◌, ◌%◌, ◌<◌, ◌≤◌, inl, inr, Bool, true, false, List, [], ◌∷◌, Some, None, arith, refl, sym, subst, ap, ◌∙◌}
use Rattle.std.specs.Prelude.{not, ◌&&◌, ◌||◌, ◌==◌, if◌then◌else◌}
use Rattle.pg_hoa_automaton.specs.declared.shape.Shape.{Shape}
use Rattle.pg_hoa_automaton.specs.declared.shape.Shape.TheVariants.{MaxEven, MaxOdd, MinEven, MinOdd, Always, Never}
use Rattle.pg_hoa_automaton.specs.Formulas.{Formula, yes, no, inf, fin, both, either, holds}
use Rattle.pg_hoa_automaton.specs.Shapes.{is_even, decides, leaf, max_even, max_odd, min_even, min_odd, condition_of, FitsShape, IsLike, bare}
use Rattle.pg_hoa_automaton.proofs.ShapeLaws.{bare_says, like_says}
use Rattle.pg_list_lemmas.proofs.Steps.{some_is, none_is_some}
use Rattle.pg_verify_environment.specs.Counterparts.{opposite, opposite_sets}

-- the written condition says what its form says
pub form_says : (f : Formula) (sets : ℕ) (shape : Shape) (on : ℕ → Bool) (fits : FitsShape f sets shape) → holds f on ≡ holds fits.0 on
form_says f sets shape on fits = sym (bare_says f on) ∙ sym (like_says fits.0 (bare f) on fits.2)

even_turned : (k : ℕ) → is_even (suc k) ≡ not (is_even k)
even_turned zero = refl
even_turned (suc k) =
    let e : suc (suc k) % 2 ≡ k % 2 = omega arith in
    ap (λ (r : ℕ). r == 0) e ∙ twice (is_even k) ∙ ap not (sym (even_turned k))
  where
    twice : (b : Bool) → b ≡ not (not b)
    twice true = refl
    twice false = refl

not_or : (a b c : Bool) → c ≡ not b → ((if a then false else true) && c) ≡ not (a || b)
not_or true b c e = refl
not_or false b c e = e

not_and : (a b c : Bool) → c ≡ not b → (a || c) ≡ not ((if a then false else true) && b)
not_and true b c e = refl
not_and false b c e = e

-- a set is wanted in the one form exactly if it isn't in the other
decides_opposite : (good : Bool) (k : ℕ) (f g : Formula) (on : ℕ → Bool) → holds g on ≡ not (holds f on)
    → holds (decides (not good) k g) on ≡ not (holds (decides good k f) on)
decides_opposite true k f g on e = not_or (on k) (holds f on) (holds g on) e
decides_opposite false k f g on e = not_and (on k) (holds f on) (holds g on) e

leaf_opposite : (good : Bool) (k : ℕ) (on : ℕ → Bool) → holds (leaf (not good) k) on ≡ not (holds (leaf good k) on)
leaf_opposite true k on = go (on k)
  where
    go : (b : Bool) → (if b then false else true) ≡ not b
    go true = refl
    go false = refl
leaf_opposite false k on = go (on k)
  where
    go : (b : Bool) → b ≡ not (if b then false else true)
    go true = refl
    go false = refl

max_opposite : (k : ℕ) (on : ℕ → Bool) → holds (max_odd k) on ≡ not (holds (max_even k) on)
max_opposite zero on = leaf_opposite true 0 on
max_opposite (suc k) on =
    ap (λ b. holds (decides b (suc k) (max_odd k)) on) (flipped k) ∙ decides_opposite (is_even (suc k)) (suc k) (max_even k) (max_odd k) on (max_opposite k on)
  where
    flipped : (k : ℕ) → is_even k ≡ not (is_even (suc k))
    flipped k = twice (is_even k) ∙ ap not (sym (even_turned k))
      where
        twice : (b : Bool) → b ≡ not (not b)
        twice true = refl
        twice false = refl

min_opposite : (k more : ℕ) (on : ℕ → Bool) → holds (min_odd k more) on ≡ not (holds (min_even k more) on)
min_opposite k zero on = ap (λ b. holds (leaf b k) on) (even_turned k) ∙ leaf_opposite (is_even k) k on
min_opposite k (suc more) on =
    ap (λ b. holds (decides b k (min_odd (suc k) more)) on) (even_turned k)
    ∙ decides_opposite (is_even k) k (min_even (suc k) more) (min_odd (suc k) more) on (min_opposite (suc k) more on)

back : (a b : Bool) → a ≡ not b → b ≡ not a
back true false e = refl
back false true e = refl
back true true e = absurd (cc e)
back false false e = absurd (cc e)

-- forms of opposite shapes
forms_opposite : (shape : Shape) (sets : ℕ) (f g : Formula) (on : ℕ → Bool) → condition_of shape sets ≡ Some f
    → condition_of (opposite shape) (opposite_sets shape sets) ≡ Some g → (shape ≡ Always → on 0 ≡ false) → holds g on ≡ not (holds f on)
forms_opposite MaxEven zero f g on e h z = absurd (none_is_some f e)
forms_opposite MaxEven (suc k) f g on e h z =
    let p : f ≡ max_even k = sym (some_is (max_even k) f e) in
    let q : g ≡ max_odd k = sym (some_is (max_odd k) g h) in
    ap (λ (x : Formula). holds x on) q ∙ max_opposite k on ∙ ap (λ (x : Formula). not (holds x on)) (sym p)
forms_opposite MaxOdd zero f g on e h z = absurd (none_is_some f e)
forms_opposite MaxOdd (suc k) f g on e h z =
    let p : f ≡ max_odd k = sym (some_is (max_odd k) f e) in
    let q : g ≡ max_even k = sym (some_is (max_even k) g h) in
    ap (λ (x : Formula). holds x on) q ∙ back (holds (max_odd k) on) (holds (max_even k) on) (max_opposite k on)
    ∙ ap (λ (x : Formula). not (holds x on)) (sym p)
forms_opposite MinEven zero f g on e h z = absurd (none_is_some f e)
forms_opposite MinEven (suc k) f g on e h z =
    let p : f ≡ min_even 0 k = sym (some_is (min_even 0 k) f e) in
    let q : g ≡ min_odd 0 k = sym (some_is (min_odd 0 k) g h) in
    ap (λ (x : Formula). holds x on) q ∙ min_opposite 0 k on ∙ ap (λ (x : Formula). not (holds x on)) (sym p)
forms_opposite MinOdd zero f g on e h z = absurd (none_is_some f e)
forms_opposite MinOdd (suc k) f g on e h z =
    let p : f ≡ min_odd 0 k = sym (some_is (min_odd 0 k) f e) in
    let q : g ≡ min_even 0 k = sym (some_is (min_even 0 k) g h) in
    ap (λ (x : Formula). holds x on) q ∙ back (holds (min_odd 0 k) on) (holds (min_even 0 k) on) (min_opposite 0 k on)
    ∙ ap (λ (x : Formula). not (holds x on)) (sym p)
forms_opposite Always (suc k) f g on e h z = absurd (none_is_some f e)
forms_opposite Always zero f g on e h z =
    let p : f ≡ yes = sym (some_is yes f e) in
    let q : g ≡ inf 0 = sym (some_is (inf 0) g h) in
    ap (λ (x : Formula). holds x on) q ∙ z refl ∙ ap (λ (x : Formula). not (holds x on)) (sym p)
forms_opposite Never (suc k) f g on e h z = absurd (none_is_some f e)
forms_opposite Never zero f g on e h z =
    let p : f ≡ no = sym (some_is no f e) in
    let q : g ≡ yes = sym (some_is yes g h) in
    ap (λ (x : Formula). holds x on) q ∙ ap (λ (x : Formula). not (holds x on)) (sym p)

pub conditions_opposite : (shape : Shape) (sets : ℕ) (condition other : Formula) (on : ℕ → Bool) → FitsShape condition sets shape
    → FitsShape other (opposite_sets shape sets) (opposite shape) → (shape ≡ Always → on 0 ≡ false)
    → holds other on ≡ not (holds condition on)
conditions_opposite shape sets condition other on fits fits' z =
    form_says other (opposite_sets shape sets) (opposite shape) on fits' ∙ forms_opposite shape sets fits.0 fits'.0 on fits.1 fits'.1 z
    ∙ ap not (sym (form_says condition sets shape on fits))

-- ---- a condition speaks of its sets alone

-- the collections agree on the sets below this
abbrev pub AgreeBelow : ℕ → (ℕ → Bool) → (ℕ → Bool) → Type 0
AgreeBelow sets on or = (s : ℕ) → s < sets → on s ≡ or s

leaf_same : (good : Bool) (k : ℕ) (on or : ℕ → Bool) → on k ≡ or k → holds (leaf good k) on ≡ holds (leaf good k) or
leaf_same true k on or e = e
leaf_same false k on or e = ap (λ b. if b then false else true) e

decides_same : (good : Bool) (k : ℕ) (f : Formula) (on or : ℕ → Bool) → on k ≡ or k → holds f on ≡ holds f or
    → holds (decides good k f) on ≡ holds (decides good k f) or
decides_same true k f on or e h = ap (λ b. b || holds f on) e ∙ ap (λ b. or k || b) h
decides_same false k f on or e h = ap (λ b. (if b then false else true) && holds f on) e ∙ ap (λ b. (if or k then false else true) && b) h

max_even_same : (k : ℕ) (on or : ℕ → Bool) → AgreeBelow (suc k) on or → holds (max_even k) on ≡ holds (max_even k) or
max_even_same zero on or same = same 0 (omega arith)
max_even_same (suc k) on or same =
    decides_same (is_even (suc k)) (suc k) (max_even k) on or (same (suc k) (omega arith)) (max_even_same k on or (λ s l. same s (omega arith)))

min_even_same : (k more sets : ℕ) (on or : ℕ → Bool) → k + more < sets → AgreeBelow sets on or → holds (min_even k more) on ≡ holds (min_even k more) or
min_even_same k zero sets on or l same = leaf_same (is_even k) k on or (same k (omega arith))
min_even_same k (suc more) sets on or l same =
    decides_same (is_even k) k (min_even (suc k) more) on or (same k (omega arith)) (min_even_same (suc k) more sets on or (omega arith) same)

form_same : (shape : Shape) (sets : ℕ) (f : Formula) (on or : ℕ → Bool) → condition_of shape sets ≡ Some f → AgreeBelow sets on or
    → holds f on ≡ holds f or
form_same MaxEven zero f on or e same = absurd (none_is_some f e)
form_same MaxEven (suc k) f on or e same =
    subst (λ (x : Formula). holds x on ≡ holds x or) (some_is (max_even k) f e) (max_even_same k on or same)
form_same MaxOdd zero f on or e same = absurd (none_is_some f e)
form_same MaxOdd (suc k) f on or e same =
    subst (λ (x : Formula). holds x on ≡ holds x or) (some_is (max_odd k) f e)
    (max_opposite k on ∙ ap not (max_even_same k on or same) ∙ sym (max_opposite k or))
form_same MinEven zero f on or e same = absurd (none_is_some f e)
form_same MinEven (suc k) f on or e same =
    subst (λ (x : Formula). holds x on ≡ holds x or) (some_is (min_even 0 k) f e) (min_even_same 0 k (suc k) on or (omega arith) same)
form_same MinOdd zero f on or e same = absurd (none_is_some f e)
form_same MinOdd (suc k) f on or e same =
    subst (λ (x : Formula). holds x on ≡ holds x or) (some_is (min_odd 0 k) f e)
    (min_opposite 0 k on ∙ ap not (min_even_same 0 k (suc k) on or (omega arith) same) ∙ sym (min_opposite 0 k or))
form_same Always (suc k) f on or e same = absurd (none_is_some f e)
form_same Always zero f on or e same = subst (λ (x : Formula). holds x on ≡ holds x or) (some_is yes f e) refl
form_same Never (suc k) f on or e same = absurd (none_is_some f e)
form_same Never zero f on or e same = subst (λ (x : Formula). holds x on ≡ holds x or) (some_is no f e) refl

pub condition_same : (shape : Shape) (sets : ℕ) (condition : Formula) (on or : ℕ → Bool) → FitsShape condition sets shape → AgreeBelow sets on or
    → holds condition on ≡ holds condition or
condition_same shape sets condition on or fits same =
    form_says condition sets shape on fits ∙ form_same shape sets fits.0 on or fits.1 same ∙ sym (form_says condition sets shape or fits)

-- ---- each shape over enough sets has a condition

like_leaf : (good : Bool) (k : ℕ) → IsLike (leaf good k) (bare (leaf good k))
like_leaf true k = refl
like_leaf false k = refl

like_decides : (good : Bool) (k : ℕ) (f : Formula) → IsLike f (bare f) → IsLike (decides good k f) (bare (decides good k f))
like_decides true k f l = (inf k, bare f, refl, inl (refl, l))
like_decides false k f l = (fin k, bare f, refl, inl (refl, l))

like_max_even : (k : ℕ) → IsLike (max_even k) (bare (max_even k))
like_max_even zero = refl
like_max_even (suc k) = like_decides (is_even (suc k)) (suc k) (max_even k) (like_max_even k)

like_max_odd : (k : ℕ) → IsLike (max_odd k) (bare (max_odd k))
like_max_odd zero = refl
like_max_odd (suc k) = like_decides (is_even k) (suc k) (max_odd k) (like_max_odd k)

like_min_even : (k more : ℕ) → IsLike (min_even k more) (bare (min_even k more))
like_min_even k zero = like_leaf (is_even k) k
like_min_even k (suc more) = like_decides (is_even k) k (min_even (suc k) more) (like_min_even (suc k) more)

like_min_odd : (k more : ℕ) → IsLike (min_odd k more) (bare (min_odd k more))
like_min_odd k zero = like_leaf (is_even (suc k)) k
like_min_odd k (suc more) = like_decides (is_even (suc k)) k (min_odd (suc k) more) (like_min_odd (suc k) more)

pub opposite_fits : (shape : Shape) (sets : ℕ) (condition : Formula) → FitsShape condition sets shape
    → (other : Formula) × FitsShape other (opposite_sets shape sets) (opposite shape)
opposite_fits MaxEven zero condition fits = absurd (none_is_some fits.0 fits.1)
opposite_fits MaxEven (suc k) condition fits = (max_odd k, (max_odd k, refl, like_max_odd k))
opposite_fits MaxOdd zero condition fits = absurd (none_is_some fits.0 fits.1)
opposite_fits MaxOdd (suc k) condition fits = (max_even k, (max_even k, refl, like_max_even k))
opposite_fits MinEven zero condition fits = absurd (none_is_some fits.0 fits.1)
opposite_fits MinEven (suc k) condition fits = (min_odd 0 k, (min_odd 0 k, refl, like_min_odd 0 k))
opposite_fits MinOdd zero condition fits = absurd (none_is_some fits.0 fits.1)
opposite_fits MinOdd (suc k) condition fits = (min_even 0 k, (min_even 0 k, refl, like_min_even 0 k))
opposite_fits Always sets condition fits = (inf 0, (inf 0, refl, refl))
opposite_fits Never zero condition fits = (yes, (yes, refl, refl))
opposite_fits Never (suc k) condition fits = absurd (none_is_some fits.0 fits.1)
