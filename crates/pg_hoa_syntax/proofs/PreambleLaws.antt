-- What headers say together, as their lists may be absent.
use Rattle.pg_hoa_syntax.proofs.Common.{◌≡◌, ◌∙◌, ◌<◌, ℕ, List, [], ◌∷◌, map, length, Option, Some, None, refl, sym, ap, subst, arith, ◌==◌}
use Rattle.pg_hoa_syntax.proofs.Common.{unwrap_or, All, list_any, get_or-map, length-map, Op, Shape, Formula, postfix, FitsShape, KeptHead}
use Rattle.pg_hoa_syntax.proofs.Common.{option_with, Preamble, IsPreambleOf, listed, some_is}

-- the list that stands in, where there is none, is empty
pub opened : {V B : Type 0} (view : V → List B) (o : Option V) (v d : V) → v ≡ unwrap_or o d → view d ≡ []
    → view v ≡ listed (option_with view o)
opened view None v d e h = ap view e ∙ h
opened view (Some w) v d e h = ap view e

abbrev pub numbers : List (ℕ × ℕ) → List ℕ
numbers xs = map {A = ℕ × ℕ} {B = ℕ} (λ x. x.0) xs

pub any_numbers : (p : ℕ) (xs : List (ℕ × ℕ)) → list_any (λ n. n == p) (numbers xs) ≡ list_any (λ (x : ℕ × ℕ). x.0 == p) xs
any_numbers p [] = refl
any_numbers p (x ∷ xs) = rw (any_numbers p xs) refl

pub below_numbers : (xs : List (ℕ × ℕ)) (n : ℕ) → All (λ (x : ℕ × ℕ). x.0 < n) xs → All (λ (m : ℕ). m < n) (numbers xs)
below_numbers xs n all k d lt =
    let within : k < length xs = omega (arith, length-map xs (λ (x : ℕ × ℕ). x.0)) in
    subst (λ (m : ℕ). m < n) (sym (get_or-map (λ (x : ℕ × ℕ). x.0) xs k (d, 0))) (all k (d, 0) within)

pub numbers_below : (xs : List (ℕ × ℕ)) (n : ℕ) → All (λ (m : ℕ). m < n) (numbers xs) → All (λ (x : ℕ × ℕ). x.0 < n) xs
numbers_below xs n all k d lt =
    let within : k < length (numbers xs) = omega (arith, length-map xs (λ (x : ℕ × ℕ). x.0)) in
    subst (λ (m : ℕ). m < n) (get_or-map (λ (x : ℕ × ℕ). x.0) xs k d) (all k d.0 within)

abbrev kept : ℕ → List Op → Option (ℕ × List Op)
kept n ops = Some (n, ops)

-- where no shape fits, there is no preamble
pub no_shape : (h : KeptHead) (sets : ℕ) (ops : List Op) → h.acceptance ≡ Some (sets, ops)
    → ((f : Formula) → postfix f ≡ ops → (shape : Shape) → FitsShape f sets shape → ⊥) → (s : Preamble) → IsPreambleOf h s → ⊥
no_shape h sets ops e none s i =
    let both : kept s.sets (postfix i.condition) ≡ kept sets ops = sym i.acceptance ∙ e in
    let pair = some_is (s.sets, postfix i.condition) (sets, ops) both in
    let same : s.sets ≡ sets = ap (λ (x : ℕ × List Op). x.0) pair in
    let written : postfix i.condition ≡ ops = ap (λ (x : ℕ × List Op). x.1) pair in
    none i.condition written s.shape (subst (λ (n : ℕ). FitsShape i.condition n s.shape) same i.shape.fits)
