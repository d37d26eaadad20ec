-- Sets are ranked by the priorities of their arrivals, as the shape looks at them.
use Rattle.pg_synth.proofs.Common.{◌≡◌, ◌↔◌, ℕ, zero, suc, ◌%◌, ◌<◌, ◌≤◌, ◌⊎◌, inl, inr, Bool, true, false, List, [], ◌∷◌, Some, None}
use Rattle.pg_synth.proofs.Common.{arith, refl, sym, subst, ◌∙◌, Contains, AllPairs-from_increasing, Rises}
use Rattle.pg_synth.proofs.Common.{contains_none, contains_here, contains_later, contains_cases, pairs_head, pairs_tail}
use Rattle.pg_synth.proofs.Common.{IsStrictlyIncreasing, cases_lt, Player, Even, Odd, HasParityOf, Shape, MaxEven, MaxOdd, MinEven, MinOdd}
use Rattle.pg_synth.proofs.Common.{Always, Never, last, deciding, set_priority, none_priority}

-- the last two shapes have no set, and the others have one at least
abbrev pub HasSets : Shape → ℕ → Type 0
HasSets MaxEven n = 0 < n
HasSets MaxOdd n = 0 < n
HasSets MinEven n = 0 < n
HasSets MinOdd n = 0 < n
HasSets _ n = n ≡ 0

-- of two sets the shape looks at the greater, or at the less
abbrev pub IsNoFurther : Shape → ℕ → ℕ → Type 0
IsNoFurther MaxEven s r = s ≤ r
IsNoFurther MaxOdd s r = s ≤ r
IsNoFurther MinEven s r = r ≤ s
IsNoFurther MinOdd s r = r ≤ s
IsNoFurther _ s r = s ≤ r

abbrev pub parity : Shape → Player
parity MaxEven = Even
parity MaxOdd = Odd
parity MinEven = Even
parity MinOdd = Odd
parity _ = Even

-- the set that the shape looks at: the greatest, or the least
pub record IsForemost (shape : Shape) (n : ℕ) (c : ℕ → Bool) (s : ℕ) : Type 0 where
  pub below : s < n
  pub within : c s ≡ true
  pub first : (r : ℕ) → r < n → c r ≡ true → IsNoFurther shape r s

abbrev pub IsEmpty : ℕ → (ℕ → Bool) → Type 0
IsEmpty n c = (s : ℕ) → s < n → c s ≡ false

abbrev pub AcceptsNone : Shape → ℕ → Type 0
AcceptsNone MaxEven n = ⊥
AcceptsNone MaxOdd n = Unit {0}
AcceptsNone MinEven n = n % 2 ≡ 0
AcceptsNone MinOdd n = n % 2 ≡ 1
AcceptsNone Always n = Unit {0}
AcceptsNone Never n = ⊥

abbrev pub IsMet : Shape → ℕ → (ℕ → Bool) → Type 0
IsMet shape n c =
    ((s : ℕ) × IsForemost shape n c s × HasParityOf (parity shape) s)
    ⊎ (IsEmpty n c × AcceptsNone shape n)

pub no_further_trans : (shape : Shape) (a b c : ℕ) → IsNoFurther shape a b → IsNoFurther shape b c → IsNoFurther shape a c
no_further_trans MaxEven a b c h k = omega arith
no_further_trans _ a b c h k = omega arith

pub no_further_self : (shape : Shape) (a : ℕ) → IsNoFurther shape a a
no_further_self MaxEven a = omega arith
no_further_self _ a = omega arith

pub no_further_total : (shape : Shape) (s r : ℕ) → IsNoFurther shape r s ⊎ IsNoFurther shape s r
no_further_total MaxEven s r = elim (cases_lt s r) [ inl h ↦ inr (omega arith) | inr h ↦ inl (omega arith) ]
no_further_total MaxOdd s r = elim (cases_lt s r) [ inl h ↦ inr (omega arith) | inr h ↦ inl (omega arith) ]
no_further_total MinEven s r = elim (cases_lt s r) [ inl h ↦ inl (omega arith) | inr h ↦ inr (omega arith) ]
no_further_total MinOdd s r = elim (cases_lt s r) [ inl h ↦ inl (omega arith) | inr h ↦ inr (omega arith) ]
no_further_total _ s r = elim (cases_lt s r) [ inl h ↦ inr (omega arith) | inr h ↦ inl (omega arith) ]

pub record IsFirstOf (shape : Shape) (xs : List ℕ) (s : ℕ) : Type 0 where
  pub occurs : Contains xs s
  pub first : (r : ℕ) → Contains xs r → IsNoFurther shape r s

least_first : (x : ℕ) (xs : List ℕ) → Rises (x ∷ xs) → (r : ℕ) → Contains (x ∷ xs) r → x ≤ r
least_first x xs up r h = elim (contains_cases x xs r h) [
  | inl e ↦ omega arith
  | inr later ↦ (let lt : x < r = pairs_head (λ x y. x < y) x xs r up later in omega arith)
]

greatest_last : (x : ℕ) (xs : List ℕ) → Rises (x ∷ xs)
    → (s : ℕ) × (last (x ∷ xs) ≡ Some s) × Contains (x ∷ xs) s × ((r : ℕ) → Contains (x ∷ xs) r → r ≤ s)
greatest_last x [] up = (
  x,
  refl,
  contains_here x [],
  λ r h. elim (contains_cases x [] r h) [ inl e ↦ omega arith | inr later ↦ absurd (contains_none r later) ],
)
greatest_last x (y ∷ ys) up =
    let t = greatest_last y ys (pairs_tail (λ x y. x < y) x (y ∷ ys) up) in (
      t.0,
      t.1,
      contains_later x (y ∷ ys) t.0 t.2,
      λ r h. elim (contains_cases x (y ∷ ys) r h) [
        | inl e ↦
            let a : y ≤ t.0 = t.3 y (contains_here y ys) in
            let b : x < y = up 0 1 0 (omega arith) (omega arith) in omega arith
        | inr later ↦ t.3 r later
      ],
    )

-- what the set of a step is that decides
pub deciding_cases : (shape : Shape) (xs : List ℕ) → IsStrictlyIncreasing xs
    → ((deciding shape xs ≡ None) × ((s : ℕ) → ¬ Contains xs s))
    ⊎ ((s : ℕ) × (deciding shape xs ≡ Some s) × IsFirstOf shape xs s)
deciding_cases shape [] inc = inl (none shape, λ s h. (let l : h.0 < 0 = h.1 in omega arith))
  where
    none : (shape : Shape) → deciding shape [] ≡ None
    none MaxEven = refl
    none _ = refl
deciding_cases shape (x ∷ xs) inc = inr (go shape)
  where
    g : (s : ℕ) × (last (x ∷ xs) ≡ Some s) × Contains (x ∷ xs) s × ((r : ℕ) → Contains (x ∷ xs) r → r ≤ s)
    g = greatest_last x xs (AllPairs-from_increasing (x ∷ xs) inc)

    go : (shape : Shape) → (s : ℕ) × (deciding shape (x ∷ xs) ≡ Some s) × IsFirstOf shape (x ∷ xs) s
    go MaxEven = (g.0, g.1, record { occurs = g.2; first = g.3 })
    go MaxOdd = (g.0, g.1, record { occurs = g.2; first = g.3 })
    go MinEven = (x, refl, record { occurs = (0, omega arith, refl); first = least_first x xs (AllPairs-from_increasing (x ∷ xs) inc) })
    go MinOdd = (x, refl, record { occurs = (0, omega arith, refl); first = least_first x xs (AllPairs-from_increasing (x ∷ xs) inc) })
    go _ = (g.0, g.1, record { occurs = g.2; first = g.3 })

pub rank_rises : (shape : Shape) (n r s : ℕ) → r < n → s < n → IsNoFurther shape r s → set_priority shape n r ≤ set_priority shape n s
rank_rises MaxEven n r s a b h = omega arith
rank_rises _ n r s a b h = omega arith

pub none_lowest : (shape : Shape) (n s : ℕ) → s < n → none_priority shape n < set_priority shape n s
none_lowest MaxEven n s a = omega arith
none_lowest _ n s a = omega arith

-- the priority of a set is even exactly if the set has the shape's parity
pub rank_parity : (shape : Shape) (n s : ℕ) → HasSets shape n → s < n → (set_priority shape n s % 2 ≡ 0) ↔ HasParityOf (parity shape) s
rank_parity MaxEven n s h l = ((λ e. omega arith), (λ e. omega arith))
rank_parity MaxOdd n s h l = ((λ e. omega arith), (λ e. omega arith))
rank_parity MinEven n s h l = ((λ e. omega arith), (λ e. omega arith))
rank_parity MinOdd n s h l = ((λ e. omega arith), (λ e. omega arith))
rank_parity _ n s h l = absurd (omega arith)

pub none_parity : (shape : Shape) (n : ℕ) → HasSets shape n → (none_priority shape n % 2 ≡ 0) ↔ AcceptsNone shape n
none_parity MaxEven n h = ((λ e. omega arith), (λ e. absurd e))
none_parity MaxOdd n h = ((λ e. tt), (λ e. omega arith))
none_parity MinEven n h = ((λ e. omega arith), (λ e. omega arith))
none_parity MinOdd n h = ((λ e. omega arith), (λ e. omega arith))
none_parity Always n h = ((λ e. tt), (λ e. omega arith))
none_parity Never n h = ((λ e. omega arith), (λ e. absurd e))

-- a collection is empty, or has a foremost set
pub find_foremost : (shape : Shape) (c : ℕ → Bool) (n : ℕ) → IsEmpty n c ⊎ ((s : ℕ) × IsForemost shape n c s)
find_foremost shape c zero = inl (λ s l. absurd (omega arith))
find_foremost shape c (suc n) = go (c n) refl (find_foremost shape c n)
  where
    up_to : (P : ℕ → Type 0) → ((s : ℕ) → s < n → P s) → P n → (s : ℕ) → s < suc n → P s
    up_to P h k s l = elim (cases_lt s n) [
      | inl a ↦ h s a
      | inr a ↦ subst P (let e : n ≡ s = omega arith in e) k
    ]

    go : (b : Bool) → c n ≡ b → IsEmpty n c ⊎ ((s : ℕ) × IsForemost shape n c s)
        → IsEmpty (suc n) c ⊎ ((s : ℕ) × IsForemost shape (suc n) c s)
    go false e (inl none) = inl (up_to (λ s. c s ≡ false) none e)
    go false e (inr (s, f)) = inr (
      s,
      record {
        below = (let l : s < n = f.below in omega arith);
        within = f.within;
        first = up_to (λ r. c r ≡ true → IsNoFurther shape r s) f.first (λ t. absurd (let x : false ≡ true = sym e ∙ t in cc x));
      },
    )
    go true e (inl none) = inr (
      n,
      record {
        below = omega arith;
        within = e;
        first = up_to (λ r. c r ≡ true → IsNoFurther shape r n)
            (λ r l t. absurd (let x : false ≡ true = sym (none r l) ∙ t in cc x))
            (λ t. no_further_self shape n);
      },
    )
    go true e (inr (s, f)) = elim (no_further_total shape n s) [
      | inl k ↦ inr (
        n,
        record {
          below = omega arith;
          within = e;
          first = up_to (λ r. c r ≡ true → IsNoFurther shape r n)
              (λ r l t. no_further_trans shape r s n (f.first r l t) k)
              (λ t. no_further_self shape n);
        },
      )
      | inr k ↦ inr (
        s,
        record {
          below = (let l : s < n = f.below in omega arith);
          within = f.within;
          first = up_to (λ r. c r ≡ true → IsNoFurther shape r s) f.first (λ t. k);
        },
      )
    ]

pub rank_same : (shape : Shape) (n r s : ℕ) → r < n → s < n → set_priority shape n r ≡ set_priority shape n s → r ≡ s
rank_same MaxEven n r s a b h = omega arith
rank_same _ n r s a b h = omega arith
