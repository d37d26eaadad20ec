-- Members of lists.
use Rattle.std.proofs.Common.{◌≡◌, ◌≢◌, ℕ, zero, suc, ◌+◌, ◌<◌, ◌⊎◌, inl, inr, List, [], ◌∷◌, ◌++◌, length, get_or, arith, refl, sym, subst, ap, ◌∙◌}
use Rattle.std.specs.Prelude.{map}
use Rattle.std.specs.List.{Contains, AllPairs}
use Rattle.std.proofs.lemmas.Bool.{cases_lt}
use Rattle.std.proofs.lemmas.List.{length-map, get_or-map, get_or_default, get_or_append_left, get_or-append-add, length-append}

pub member_mapped : {X Y : Type 0} (f : X → Y) (xs : List X) (x : X) → Contains xs x → Contains (map f xs) (f x)
member_mapped f xs x (k, l, e) = (k, (let n = length-map xs f in omega (arith, n, l)), get_or-map f xs k x (f x) l ∙ ap f e)

pub member_unmapped : {X Y : Type 0} (f : X → Y) (xs : List X) (y : Y) → Contains (map f xs) y → (x : X) × Contains xs x × (f x ≡ y)
member_unmapped f [] y (k, l, e) = absurd (omega arith)
member_unmapped f (x ∷ xs) y (zero, l, e) = (x, (0, omega arith, refl), e)
member_unmapped f (x ∷ xs) y (suc k, l, e) =
    let h = member_unmapped f xs y (k, omega arith, e) in (h.0, (suc h.1.0, (let m = h.1.1 in omega (arith, m)), h.1.2), h.2)

pub member_first : {X : Type 0} (x : X) (xs : List X) → Contains (x ∷ xs) x
member_first x xs = (0, omega arith, refl)

pub member_rest : {X : Type 0} (y : X) (xs : List X) (x : X) → Contains xs x → Contains (y ∷ xs) x
member_rest y xs x (k, l, e) = (suc k, omega arith, e)

pub member_cases : {X : Type 0} (y : X) (xs : List X) (x : X) → Contains (y ∷ xs) x → (y ≡ x) ⊎ Contains xs x
member_cases y xs x (zero, l, e) = inl e
member_cases y xs x (suc k, l, e) = inr (k, omega arith, e)

-- the pairs of a list's end
pub pairs_behind : (xs ys : List ℕ) → AllPairs (λ x y. x ≢ y) (xs ++ ys) → AllPairs (λ x y. x ≢ y) ys
pairs_behind xs ys pairs i j d l h e =
    pairs (length xs + i) (length xs + j) d (omega arith) (let n = length-append xs ys in omega (arith, n, h))
    (get_or-append-add xs ys i d ∙ e ∙ sym (get_or-append-add xs ys j d))

pub pairs_before : (xs ys : List ℕ) → AllPairs (λ x y. x ≢ y) (xs ++ ys) → AllPairs (λ x y. x ≢ y) xs
pairs_before xs ys pairs i j d l h e =
    pairs i j d l (let n = length-append xs ys in omega (arith, n, h))
    (get_or_append_left xs ys d i (omega arith) ∙ e ∙ sym (get_or_append_left xs ys d j h))

-- no member of the first list is one of the second
pub apart : (xs ys : List ℕ) (x : ℕ) → AllPairs (λ x y. x ≢ y) (xs ++ ys) → Contains xs x → Contains ys x → ⊥
apart xs ys x pairs (i, l, e) (j, m, f) =
    pairs i (length xs + j) x (omega arith) (let n = length-append xs ys in omega (arith, n, m))
    (get_or_append_left xs ys x i l ∙ e ∙ sym f ∙ sym (get_or-append-add xs ys j x))

-- members with one value are one
pub one_member : {X : Type 0} (f : X → ℕ) (xs : List X) (x y : X) → AllPairs (λ a b. a ≢ b) (map f xs) → Contains xs x → Contains xs y → f x ≡ f y → x ≡ y
one_member f xs x y pairs (i, l, e) (j, m, h) same = elim (cases_lt i j) [
  | inl less ↦ absurd (pairs i j 0 less (omega (arith, m, length-map xs f)) (left ∙ same ∙ sym right))
  | inr le ↦ elim (cases_lt j i) [
    | inl more ↦ absurd (pairs j i 0 more (omega (arith, l, length-map xs f)) (right ∙ sym same ∙ sym left))
    | inr ge ↦
        let k : i ≡ j = omega arith in
        sym e ∙ get_or_default xs i x y l ∙ ap (λ n. get_or xs n y) k ∙ h
  ]
]
  where
    left : get_or (map f xs) i 0 ≡ f x
    left = get_or-map f xs i x 0 l ∙ ap f e

    right : get_or (map f xs) j 0 ≡ f y
    right = get_or-map f xs j y 0 m ∙ ap f h
