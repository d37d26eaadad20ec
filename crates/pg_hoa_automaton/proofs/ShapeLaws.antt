-- The order of operands and brackets do not change what a condition says.
use Rattle.std.proofs.Common.{◌≡◌, ℕ, suc, zero, Bool, true, false, refl, sym, ap, ◌∙◌, inl, inr}
use Rattle.std.specs.Prelude.{◌&&◌, ◌||◌, ◌↔◌, IsTrue}
use Rattle.std.proofs.lemmas.Bool.{cases_order}
use Rattle.pg_hoa_automaton.specs.declared.shape.Shape.{Shape}
use Rattle.pg_hoa_automaton.specs.declared.shape.Shape.TheVariants.{MaxEven, MaxOdd, MinEven, MinOdd, Always, Never}
use Rattle.pg_hoa_automaton.specs.Formulas.{Formula, yes, no, proposition, inf, fin, not, both, either, bracket, holds}
use Rattle.pg_hoa_automaton.specs.Shapes.{bare, IsLike, FitsShape, HasShape, Accepts, place}
use Rattle.pg_hoa_automaton.specs.Mirrors.Nests.{set_at, wanted_at}
use Rattle.pg_list_lemmas.proofs.Steps.{some_is, none_is_some}
use Rattle.pg_hoa_automaton.proofs.Nested.{nested_in, condition_nested, no_constant}
use Rattle.pg_hoa_automaton.proofs.ShapeSays.{nested_decided, decided_nested, to_accepts, from_accepts}

pub bare_says : (f : Formula) (on : ℕ → Bool) → holds (bare f) on ≡ holds f on
bare_says (both f g) on = rw (bare_says f on, bare_says g on) refl
bare_says (either f g) on = rw (bare_says f on, bare_says g on) refl
bare_says (bracket f) on = bare_says f on
bare_says (not f) on = rw (bare_says f on) refl
bare_says yes on = refl
bare_says no on = refl
bare_says (proposition a) on = refl
bare_says (inf s) on = refl
bare_says (fin s) on = refl

and_turned : (a b : Bool) → a && b ≡ b && a
and_turned true true = refl
and_turned true false = refl
and_turned false true = refl
and_turned false false = refl

or_turned : (a b : Bool) → a || b ≡ b || a
or_turned true true = refl
or_turned true false = refl
or_turned false true = refl
or_turned false false = refl

same_form : (f h : Formula) (on : ℕ → Bool) → h ≡ f → holds f on ≡ holds h on
same_form f h on e = ap (λ (g : Formula). holds g on) (sym e)

pub like_says : (f h : Formula) (on : ℕ → Bool) → IsLike f h → holds f on ≡ holds h on
like_says (both f g) h on l =
    elim (l.3) as (λ _. holds f on && holds g on ≡ holds h on) [
      | inl p ↦ rw (l.2, like_says f l.0 on p.0, like_says g l.1 on p.1) refl
      | inr p ↦ rw (l.2, like_says f l.1 on p.0, like_says g l.0 on p.1) (and_turned (holds l.1 on) (holds l.0 on))
    ]
like_says (either f g) h on l =
    elim (l.3) as (λ _. holds f on || holds g on ≡ holds h on) [
      | inl p ↦ rw (l.2, like_says f l.0 on p.0, like_says g l.1 on p.1) refl
      | inr p ↦ rw (l.2, like_says f l.1 on p.0, like_says g l.0 on p.1) (or_turned (holds l.1 on) (holds l.0 on))
    ]
like_says yes h on l = same_form yes h on l
like_says no h on l = same_form no h on l
like_says (proposition a) h on l = same_form (proposition a) h on l
like_says (inf s) h on l = same_form (inf s) h on l
like_says (fin s) h on l = same_form (fin s) h on l
like_says (not f) h on l = same_form (not f) h on l
like_says (bracket f) h on l = same_form (bracket f) h on l

-- ---- the law of shapes

form_says : (f : Formula) (sets : ℕ) (shape : Shape) (on : ℕ → Bool) (fits : FitsShape f sets shape) → holds f on ≡ holds fits.0 on
form_says f sets shape on fits = sym (bare_says f on) ∙ sym (like_says fits.0 (bare f) on fits.2)

says_nothing : (f : Formula) (shape : Shape) (on : ℕ → Bool) → FitsShape f 0 shape → (holds f on ≡ true) ↔ Accepts shape 0 on
says_nothing f Always on fits = (λ e. tt, λ a. form_says f 0 Always on fits ∙ ap (λ (g : Formula). holds g on) (sym (some_is yes fits.0 fits.1)))
says_nothing f Never on fits = (
  λ e. let never : true ≡ false = sym e ∙ form_says f 0 Never on fits
      ∙ ap (λ (g : Formula). holds g on) (sym (some_is no fits.0 fits.1)) in absurd cc,
  λ a. absurd a,
)
says_nothing f MaxEven on fits = absurd (none_is_some fits.0 fits.1)
says_nothing f MaxOdd on fits = absurd (none_is_some fits.0 fits.1)
says_nothing f MinEven on fits = absurd (none_is_some fits.0 fits.1)
says_nothing f MinOdd on fits = absurd (none_is_some fits.0 fits.1)

says_nested : (f : Formula) (k : ℕ) (shape : Shape) (on : ℕ → Bool) → FitsShape f (suc k) shape → (holds f on ≡ true) ↔ Accepts shape (suc k) on
says_nested f k shape on fits =
    let h = no_constant shape k f fits in
    let form : fits.0 ≡ nested_in shape (suc k) k = some_is fits.0 (nested_in shape (suc k) k) (sym fits.1 ∙ condition_nested shape k h) in
    let same : holds f on ≡ holds (nested_in shape (suc k) k) on = form_says f (suc k) shape on fits ∙ ap (λ (g : Formula). holds g on) form in (
      λ e. to_accepts shape k on h (nested_decided (set_at shape (suc k)) (wanted_at shape (suc k)) on k (sym same ∙ e)),
      λ a. same ∙ decided_nested (set_at shape (suc k)) (wanted_at shape (suc k)) on k (from_accepts shape k on h a),
    )

-- a condition of a shape holds of just the collections that the shape accepts
pub shape_says : (f : Formula) (sets : ℕ) (shape : Shape) (on : ℕ → Bool) → FitsShape f sets shape → IsTrue (holds f on) ↔ Accepts shape sets on
shape_says f zero shape on fits = says_nothing f shape on fits
shape_says f (suc k) shape on fits = says_nested f k shape on fits

-- ---- one shape

abbrev shape_with : ℕ → Shape
shape_with zero = MaxEven
shape_with (suc zero) = MaxOdd
shape_with (suc (suc zero)) = MinEven
shape_with (suc (suc (suc zero))) = MinOdd
shape_with (suc (suc (suc (suc zero)))) = Always
shape_with (suc (suc (suc (suc (suc n))))) = Never

its_place : (shape : Shape) → shape_with (place shape) ≡ shape
its_place MaxEven = refl
its_place MaxOdd = refl
its_place MinEven = refl
its_place MinOdd = refl
its_place Always = refl
its_place Never = refl

pub one_shape : {f : Formula} {sets : ℕ} {s t : Shape} → HasShape f sets s → HasShape f sets t → s ≡ t
one_shape {f = f} {sets = sets} {s = s} {t = t} a b =
    elim (cases_order (place s) (place t)) [
      | inl e ↦ sym (its_place s) ∙ ap shape_with e ∙ its_place t
      | inr p ↦ elim p [
        | inl lt ↦ absurd (b.first s lt a.fits)
        | inr lt ↦ absurd (a.first t lt b.fits)
      ]
    ]
