-- The finder of shapes gives the first shape that fits, if there is one.
use Rattle.pg_hoa_syntax.proofs.Common.{◌≡◌, ℕ, suc, zero, ◌-◌, ◌<◌, Bool, true, false, cond, List, [], ◌∷◌, Option, Some, None, refl, sym, ap}
use Rattle.pg_hoa_syntax.proofs.Common.{subst, ◌∙◌, arith, nat_tests, IfSome, IfNone, Op, Yes, No, Shape, MaxEven, MaxOdd, MinEven, MinOdd}
use Rattle.pg_hoa_syntax.proofs.Common.{Always, Never, Formula, yes, no, postfix, condition_of, bare, IsLike, FitsShape, HasShape, place}
use Rattle.pg_hoa_syntax.proofs.Common.{set_at, wanted_at, nests_at, fits_at, constant_at, nested_at, nested_in, condition_nested, no_constant}
use Rattle.pg_hoa_syntax.proofs.Common.{some_is, none_is_some}
use Rattle.pg_hoa_syntax.proofs.ShapeTrees.{one_tree, bare_postfix}
use Rattle.pg_hoa_syntax.proofs.ShapeNests.{nests_tree, tree_nests, AllDiffer}

each_differs : (shape : Shape) (k : ℕ) → AllDiffer (set_at shape (suc k)) k
each_differs MinEven k = record { differ = λ i j lt le e. omega arith }
each_differs _ k = record { differ = λ i j lt le e. omega arith }

-- ---- one shape

pub record Tells (f : Formula) (sets : ℕ) (shape : Shape) (answer : Bool) : Type 0 where
  pub right : answer ≡ true → FitsShape f sets shape
  pub full : FitsShape f sets shape → answer ≡ true

one_less : (k : ℕ) → suc k - 1 ≡ k
one_less k = omega arith

fits_tells : (f : Formula) (k : ℕ) (shape : Shape) → place shape < 4 → Tells f (suc k) shape (fits_at shape (suc k) (postfix f))
unfolding fits_at
fits_tells f k shape h =
    let set = set_at shape (suc k) in
    let wanted = wanted_at shape (suc k) in
    let form = nested_in shape (suc k) k in
    let is : condition_of shape (suc k) ≡ Some form = condition_nested shape k h in
    let at : nests_at set wanted (suc k - 1) (postfix f) ≡ nests_at set wanted k (postfix f) =
    ap (λ (m : ℕ). nests_at set wanted m (postfix f)) (one_less k) in
    record {
      right = λ e.
          let t = nests_tree set wanted k (postfix f) (sym at ∙ e) in
          let same : t.0 ≡ bare f = sym t.1.no_bracket ∙ one_tree t.0 f t.1.ops_are in
          (form, is, subst (IsLike form) same t.1.like);
      full = λ fits.
          let same : fits.0 ≡ form = some_is fits.0 form (sym fits.1 ∙ is) in
          let P : Formula → Type 0 = λ g. IsLike g (bare f) in
          at ∙ ap (nests_at set wanted k) (sym (bare_postfix f)) ∙ tree_nests set wanted k k (bare f) (each_differs shape k) (omega arith)
          (subst P same fits.2);
    }

-- ---- the first of four

refuted : {f : Formula} {sets : ℕ} {shape : Shape} → Tells f sets shape false → FitsShape f sets shape → ⊥
refuted t fits = let e = t.full fits in absurd cc

first_max_odd : (f : Formula) (sets : ℕ) → (FitsShape f sets MaxEven → ⊥) → (other : Shape) → place other < 1 → FitsShape f sets other → ⊥
first_max_odd f sets a MaxEven h fits = a fits
first_max_odd f sets a other h fits = omega arith

first_min_even : (f : Formula) (sets : ℕ) → (FitsShape f sets MaxEven → ⊥) → (FitsShape f sets MaxOdd → ⊥) → (other : Shape)
    → place other < 2 → FitsShape f sets other → ⊥
first_min_even f sets a b MaxEven h fits = a fits
first_min_even f sets a b MaxOdd h fits = b fits
first_min_even f sets a b other h fits = omega arith

first_min_odd : (f : Formula) (sets : ℕ) → (FitsShape f sets MaxEven → ⊥) → (FitsShape f sets MaxOdd → ⊥) → (FitsShape f sets MinEven → ⊥)
    → (other : Shape) → place other < 3 → FitsShape f sets other → ⊥
first_min_odd f sets a b d MaxEven h fits = a fits
first_min_odd f sets a b d MaxOdd h fits = b fits
first_min_odd f sets a b d MinEven h fits = d fits
first_min_odd f sets a b d other h fits = omega arith

no_other : (f : Formula) (sets : ℕ) → (FitsShape f sets MaxEven → ⊥) → (FitsShape f sets MaxOdd → ⊥) → (FitsShape f sets MinEven → ⊥)
    → (FitsShape f sets MinOdd → ⊥) → (other : Shape) → place other < 4 → FitsShape f sets other → ⊥
no_other f sets a b d e MaxEven h fits = a fits
no_other f sets a b d e MaxOdd h fits = b fits
no_other f sets a b d e MinEven h fits = d fits
no_other f sets a b d e MinOdd h fits = e fits
no_other f sets a b d e other h fits = omega arith

abbrev first_of_four : Bool → Bool → Bool → Bool → Option Shape
first_of_four a b d e = cond a (Some MaxEven) (cond b (Some MaxOdd) (cond d (Some MinEven) (cond e (Some MinOdd) None)))

-- what a finder of shapes answers
pub record Finds (f : Formula) (sets : ℕ) (answer : Option Shape) : Type 0 where
  pub found : IfSome answer (λ shape. HasShape f sets shape)
  pub none : IfNone answer ((shape : Shape) → FitsShape f sets shape → ⊥)

four_finds : (f : Formula) (k : ℕ) (a b d e : Bool) → Tells f (suc k) MaxEven a → Tells f (suc k) MaxOdd b → Tells f (suc k) MinEven d
    → Tells f (suc k) MinOdd e → Finds f (suc k) (first_of_four a b d e)
four_finds f k true b d e ta tb td te = record { found = record { fits = ta.right refl; first = λ other h fits. omega arith }; none = tt }
four_finds f k false true d e ta tb td te =
    record { found = record { fits = tb.right refl; first = first_max_odd f (suc k) (refuted ta) }; none = tt }
four_finds f k false false true e ta tb td te =
    record { found = record { fits = td.right refl; first = first_min_even f (suc k) (refuted ta) (refuted tb) }; none = tt }
four_finds f k false false false true ta tb td te =
    record { found = record { fits = te.right refl; first = first_min_odd f (suc k) (refuted ta) (refuted tb) (refuted td) }; none = tt }
four_finds f k false false false false ta tb td te =
    record {
      found = tt;
      none = λ shape fits. no_other f (suc k) (refuted ta) (refuted tb) (refuted td) (refuted te) shape
          (no_constant shape k f fits) fits;
    }

pub nested_finds : (f : Formula) (sets : ℕ) (ops : List Op) (answer : Option Shape) → (sets ≡ 0 → ⊥) → postfix f ≡ ops
    → answer ≡ nested_at sets ops → Finds f sets answer
nested_finds f zero ops answer some_sets e is = absurd (some_sets refl)
nested_finds f (suc k) ops answer some_sets e is =
    grind (
      arith,
      nat_tests,
      four_finds f k (fits_at MaxEven (suc k) (postfix f)) (fits_at MaxOdd (suc k) (postfix f))
          (fits_at MinEven (suc k) (postfix f)) (fits_at MinOdd (suc k) (postfix f)) (fits_tells f k MaxEven (omega arith))
          (fits_tells f k MaxOdd (omega arith)) (fits_tells f k MinEven (omega arith)) (fits_tells f k MinOdd (omega arith)),
    )

-- ---- no set

always_is : (f : Formula) → FitsShape f 0 Always → postfix f ≡ Yes ∷ []
always_is f fits = grind (arith, nat_tests, some_is yes fits.0 fits.1, bare_postfix f)

never_is : (f : Formula) → FitsShape f 0 Never → postfix f ≡ No ∷ []
never_is f fits = grind (arith, nat_tests, some_is no fits.0 fits.1, bare_postfix f)

no_set : (f : Formula) (shape : Shape) → place shape < 4 → FitsShape f 0 shape → ⊥
no_set f MaxEven h fits = none_is_some fits.0 fits.1
no_set f MaxOdd h fits = none_is_some fits.0 fits.1
no_set f MinEven h fits = none_is_some fits.0 fits.1
no_set f MinOdd h fits = none_is_some fits.0 fits.1
no_set f _ h fits = omega arith

first_never : (f : Formula) → (FitsShape f 0 Always → ⊥) → (other : Shape) → place other < 5 → FitsShape f 0 other → ⊥
first_never f a Always h fits = a fits
first_never f a Never h fits = omega arith
first_never f a other h fits = no_set f other (omega arith) fits

neither : (f : Formula) → (FitsShape f 0 Always → ⊥) → (FitsShape f 0 Never → ⊥) → (other : Shape) → FitsShape f 0 other → ⊥
neither f a b Always fits = a fits
neither f a b Never fits = b fits
neither f a b other fits = no_set f other (omega arith) fits

constant_tells : (f : Formula) (ops : List Op) → postfix f ≡ ops → Finds f 0 (constant_at ops)
constant_tells f (Yes ∷ []) e =
    record { found = record { fits = (yes, refl, one_tree f yes e); first = λ other h fits. no_set f other h fits }; none = tt }
constant_tells f (No ∷ []) e = record {
  found = record {
    fits = (no, refl, one_tree f no e);
    first = first_never f (λ fits. let is = sym (always_is f fits) ∙ e in
        absurd cc);
  };
  none = tt;
}
constant_tells f ops e = record {
  found = tt;
  none = neither f (λ fits. let is = sym (always_is f fits) ∙ e in absurd cc) (λ fits. let is =
      sym (never_is f fits) ∙ e in absurd cc);
}

pub constant_finds : (f : Formula) (sets : ℕ) (ops : List Op) (answer : Option Shape) → sets ≡ 0 → postfix f ≡ ops
    → answer ≡ constant_at ops → Finds f sets answer
constant_finds f zero ops answer no_sets e is = subst (Finds f 0) (sym is) (constant_tells f ops e)
constant_finds f (suc k) ops answer no_sets e is = absurd (omega arith)
