-- Membership in lists, the first element apart, and lists whose elements stand in an order.
use Rattle.std.proofs.Common.{◌≡◌, ℕ, suc, zero, ◌<◌, List, [], ◌∷◌, map, refl, sym, subst, ap, ◌∙◌, ◌⊎◌, inl, inr, arith}
use Rattle.std.specs.List.{Contains, AllPairs, flat_map}
use Rattle.std.specs.List.Sorted.{IsStrictlyIncreasing}
use Rattle.std.proofs.lemmas.List.{get_or-map, length-map}
use Rattle.std.proofs.lemmas.List.Elements.{Contains-append_left, Contains-append_right, Contains-append_cases}
use Rattle.std.proofs.lemmas.List.Kept.{AllPairs-from_increasing}

pub contains_cases : {X : Type 0} (x : X) (xs : List X) (y : X) → Contains (x ∷ xs) y → (y ≡ x) ⊎ Contains xs y
contains_cases x xs y (zero, lt, is) = inl (sym is)
contains_cases x xs y (suc k, lt, is) = inr (k, omega arith, is)

pub contains_here : {X : Type 0} (x : X) (xs : List X) → Contains (x ∷ xs) x
contains_here x xs = (0, omega arith, refl)

pub contains_later : {X : Type 0} (x : X) (xs : List X) (y : X) → Contains xs y → Contains (x ∷ xs) y
contains_later x xs y (k, lt, is) = (suc k, omega arith, is)

pub contains_none : {X : Type 0} (y : X) → Contains [] y → ⊥
contains_none y (k, lt, is) = omega arith

pub contains_map : {X Y : Type 0} (f : X → Y) (xs : List X) (y : Y) → Contains (map f xs) y → (x : X) × Contains xs x × (f x ≡ y)
contains_map f [] y c = absurd (contains_none y c)
contains_map f (x ∷ xs) y c = elim (contains_cases (f x) (map f xs) y c) [
  | inl same ↦ (x, contains_here x xs, sym same)
  | inr later ↦ (let p = contains_map f xs y later in (p.0, contains_later x xs p.0 p.1, p.2))
]

pub contains_mapped : {X Y : Type 0} (f : X → Y) (xs : List X) (x : X) → Contains xs x → Contains (map f xs) (f x)
contains_mapped f xs x (k, lt, is) = (k, omega (arith, length-map xs f), get_or-map f xs k x (f x) lt ∙ ap f is)

pub contains_flat : {X A : Type 0} (f : X → List A) (xs : List X) (y : A) → Contains (flat_map f xs) y → (x : X) × Contains xs x × Contains (f x) y
contains_flat f [] y c = absurd (contains_none y c)
contains_flat f (x ∷ xs) y c = elim (Contains-append_cases (f x) (flat_map f xs) y c) [
  | inl here ↦ (x, contains_here x xs, here)
  | inr later ↦ (let p = contains_flat f xs y later in (p.0, contains_later x xs p.0 p.1, p.2))
]

pub contains_flattened : {X A : Type 0} (f : X → List A) (xs : List X) (x : X) (y : A) → Contains xs x → Contains (f x) y → Contains (flat_map f xs) y
contains_flattened f [] x y c h = absurd (contains_none x c)
contains_flattened f (z ∷ zs) x y c h = elim (contains_cases z zs x c) [
  | inl same ↦ Contains-append_left (f z) (flat_map f zs) y (subst (λ u. Contains (f u) y) same h)
  | inr later ↦ Contains-append_right (f z) (flat_map f zs) y (contains_flattened f zs x y later h)
]

-- ---- elements in an order

abbrev pub Rises : List ℕ → Type 0
Rises xs = AllPairs (λ x y. x < y) xs

pub pairs_head : {X : Type 0} (R : X → X → Type 0) (x : X) (xs : List X) (y : X) → AllPairs R (x ∷ xs) → Contains xs y → R x y
pairs_head R x xs y p (k, lt, is) = subst (R x) is (p 0 (suc k) y (omega arith) (omega arith))

pub pairs_tail : {X : Type 0} (R : X → X → Type 0) (x : X) (xs : List X) → AllPairs R (x ∷ xs) → AllPairs R xs
pairs_tail R x xs p = λ i j d l h. p (suc i) (suc j) d (omega arith) (omega arith)

pub pairs_by : {X : Type 0} (f : X → ℕ) (xs : List X) → IsStrictlyIncreasing (map f xs) → AllPairs (λ x y. f x < f y) xs
pairs_by f xs up = λ i j d l h.
    let p = AllPairs-from_increasing (map f xs) up i j 0 l (omega (arith, length-map xs f)) in
    let a = get_or-map f xs i d 0 (omega arith) in
    let b = get_or-map f xs j d 0 h in
    omega arith

-- two lists of the same elements, both in one order, are one
pub same_order : {X : Type 0} (R : X → X → Type 0) (xs ys : List X) → ((x y : X) → R x y → R y x → ⊥) → AllPairs R xs → AllPairs R ys
    → ((x : X) → Contains xs x → Contains ys x) → ((x : X) → Contains ys x → Contains xs x) → xs ≡ ys
same_order R [] [] apart p q f g = refl
same_order R [] (y ∷ ys) apart p q f g = absurd (contains_none y (g y (contains_here y ys)))
same_order R (x ∷ xs) [] apart p q f g = absurd (contains_none x (f x (contains_here x xs)))
same_order {X} R (x ∷ xs) (y ∷ ys) apart p q f g =
    let same : x ≡ y = elim (contains_cases y ys x (f x (contains_here x xs))) [
      | inl e ↦ e
      | inr deep ↦ elim (contains_cases x xs y (g y (contains_here y ys))) [
        | inl e ↦ sym e
        | inr other ↦ absurd (apart x y (pairs_head R x xs y p other) (pairs_head R y ys x q deep))
      ]
    ] in
    rw (
      same,
      same_order R xs ys apart (pairs_tail R x xs p) (pairs_tail R y ys q)
          (λ z c. later x xs y ys z same p c (f z (contains_later x xs z c)))
          (λ z c. later y ys x xs z (sym same) q c (g z (contains_later y ys z c))),
    ) refl
  where
    later : (x : X) (xs : List X) (y : X) (ys : List X) (z : X) → x ≡ y → AllPairs R (x ∷ xs) → Contains xs z → Contains (y ∷ ys) z → Contains ys z
    later x xs y ys z same p c d = elim (contains_cases y ys z d) [
      | inl e ↦ (let r : R x x = subst (R x) (e ∙ sym same) (pairs_head R x xs z p c) in absurd (apart x x r r))
      | inr deep ↦ deep
    ]

pub rising_same : (xs ys : List ℕ) → IsStrictlyIncreasing xs → IsStrictlyIncreasing ys → ((q : ℕ) → Contains xs q → Contains ys q)
    → ((q : ℕ) → Contains ys q → Contains xs q) → xs ≡ ys
rising_same xs ys up up' f g = same_order (λ x y. x < y) xs ys (λ x y a b. omega arith) (AllPairs-from_increasing xs up) (AllPairs-from_increasing ys up') f g

-- ---- what holds of all elements
