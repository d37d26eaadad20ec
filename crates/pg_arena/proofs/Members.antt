-- Whether a number stands among rising ones.
use Rattle.pg_arena.proofs.Common.{◌≡◌, ℕ, zero, suc, ◌+◌, ◌-◌, ◌≤◌, ◌<◌, false, List, [], ◌∷◌, ◌++◌, length, get_or, Result, Ok, Err, refl, sym}
use Rattle.pg_arena.proofs.Common.{ap, ◌∙◌, subst, arith, inl, inr, MatchResult, is_ok, Some, slice_get, IsStrictlyIncreasing}
use Rattle.pg_arena.proofs.Common.{IsBinarySearchResult, nat_cmp, ne_eqb, cases_lt, get_or_default, length-append, get_or-append}
use Rattle.pg_arena.proofs.Common.{get_or-append_seam, get_or_from_slice_get, searched, sorted_from_strictly_increasing}
use Rattle.pg_arena.proofs.Common.{non_decreasing_from_sorted, has, has_contained}

pub has_none : (q : ℕ) (xs : List ℕ) → ((k : ℕ) → k < length xs → get_or xs k 0 ≡ q → ⊥) → has q xs ≡ false
has_none q [] h = refl
has_none q (x ∷ xs) h = rw (ne_eqb q x (λ e. h 0 (omega arith) (sym e)), has_none q xs (λ k lt e. h (suc k) (omega arith) e)) refl

pub above_last : (xs : List ℕ) (n last : ℕ) → IsStrictlyIncreasing xs → Some last ≡ slice_get xs (length xs - 1) → last < n → has n xs ≡ false
above_last xs n last up is lt = has_none n xs (λ k within e.
    let order : get_or xs k 0 ≤ get_or xs (length xs - 1) 0 = non_decreasing_from_sorted xs (sorted_from_strictly_increasing xs up) k
    (length xs - 1) 0 (omega arith) (omega arith) in
    omega (arith, get_or_from_slice_get xs (length xs - 1) last 0 (sym is)))

found : (q : ℕ) (xs : List ℕ) (r : Result ℕ ℕ)
    → MatchResult r (λ i. (i < length xs) × (get_or xs i 0 ≡ q)) (λ i. (i ≤ length xs) × ((k : ℕ) → k < i → get_or xs k 0 < q) ×
    ((k : ℕ) → i ≤ k → k < length xs → q < get_or xs k 0))
    → is_ok r ≡ has q xs
found q xs (Ok i) h = sym (has_contained q xs (i, h.0, get_or_default xs i q 0 h.0 ∙ h.1))
found q xs (Err i) h = sym (has_none q xs (λ k lt e.
    elim (cases_lt k i) [
      | inl low ↦ (let below = h.1 k low in omega arith)
      | inr high ↦ (let above = h.2 k high lt in omega arith)
    ]))

pub search_finds : (q : ℕ) (xs : List ℕ) (r : Result ℕ ℕ) → IsStrictlyIncreasing xs → IsBinarySearchResult (λ y. nat_cmp y q) xs r → is_ok r ≡ has q xs
search_finds q xs r up h = found q xs r (searched xs q r h (λ i j le lt. non_decreasing_from_sorted xs (sorted_from_strictly_increasing xs up) i j 0 le lt))

pub below_least : (xs : List ℕ) (n least : ℕ) → IsStrictlyIncreasing xs → Some least ≡ slice_get xs 0 → n < least → has n xs ≡ false
below_least xs n least up is lt = has_none n xs (λ k within e.
    let order : get_or xs 0 0 ≤ get_or xs k 0 = non_decreasing_from_sorted xs (sorted_from_strictly_increasing xs up) 0 k 0 (omega arith) within in
    omega (arith, get_or_from_slice_get xs 0 least 0 (sym is)))

pub search_misses : (q : ℕ) (xs : List ℕ) (i : ℕ) → IsStrictlyIncreasing xs
    → (let r : Result ℕ ℕ = Err i in IsBinarySearchResult (λ y. nat_cmp y q) xs r) → has q xs ≡ false
search_misses q xs i up h = sym (search_finds q xs (Err i) up h)

-- a number above the last of those that rise
pub rises_more : (xs : List ℕ) (n last : ℕ) → IsStrictlyIncreasing xs → Some last ≡ slice_get xs (length xs - 1) → last < n
    → IsStrictlyIncreasing (xs ++ n ∷ [])
rises_more xs n last up is above = λ k within.
    let long = length-append xs (n ∷ []) in
    elim (cases_lt (k + 1) (length xs)) [
      | inl low ↦
          let here = get_or-append xs (n ∷ []) 0 k (omega arith) in
          let next = get_or-append xs (n ∷ []) 0 (k + 1) low in
          omega (arith, here, next, up k low)
      | inr high ↦
          let end : k + 1 ≡ length xs = omega (arith, long, within, high) in
          let here = get_or-append xs (n ∷ []) 0 k (omega arith) in
          let place : k ≡ length xs - 1 = omega arith in
          let top : get_or xs k 0 ≡ last = ap (λ (i : ℕ). get_or xs i 0) place ∙ get_or_from_slice_get xs (length xs - 1) last 0 (sym is) in
          let new : get_or (xs ++ n ∷ []) (k + 1) 0 ≡ n = ap (λ (i : ℕ). get_or (xs ++ n ∷ []) i 0) end ∙ get_or-append_seam xs n [] 0 in
          omega (arith, here, top, new, above)
    ]

pub one_rises : (xs : List ℕ) (n : ℕ) → length xs ≤ 0 → IsStrictlyIncreasing (xs ++ n ∷ [])
one_rises xs n none = λ k within. absurd (omega (arith, length-append xs (n ∷ [])))

-- numbers that rise climb by one at least from place to place
climbs : (xs : List ℕ) → IsStrictlyIncreasing xs → (i d : ℕ) → i + d < length xs → get_or xs i 0 + d ≤ get_or xs (i + d) 0
climbs xs up i zero within =
    let e : i ≡ i + 0 = omega arith in
    subst (λ (k : ℕ). get_or xs i 0 + 0 ≤ get_or xs k 0) e (omega arith)
climbs xs up i (suc d) within =
    let e : i + d + 1 ≡ i + suc d = omega arith in
    let before = climbs xs up i d (omega arith) in
    let step : get_or xs (i + d) 0 < get_or xs (i + d + 1) 0 = up (i + d) (omega arith) in
    subst (λ (k : ℕ). get_or xs i 0 + suc d ≤ get_or xs k 0) e (omega (arith, before, step))

-- where as many numbers rise as there are from the first to the last, none is left out
pub runs : (xs : List ℕ) (least last : ℕ) → IsStrictlyIncreasing xs → Some least ≡ slice_get xs 0
    → Some last ≡ slice_get xs (length xs - 1) → last - least ≡ length xs - 1 → (i : ℕ) → i < length xs → get_or xs i 0 ≡ get_or xs 0 0 + i
runs xs least last up first end whole i within =
    let more : ℕ = length xs - 1 - i in
    let from : get_or xs 0 0 ≡ least = get_or_from_slice_get xs 0 least 0 (sym first) in
    let to : get_or xs (length xs - 1) 0 ≡ last = get_or_from_slice_get xs (length xs - 1) last 0 (sym end) in
    let here : 0 + i ≡ i = omega arith in
    let top : i + more ≡ length xs - 1 = omega arith in
    let behind : get_or xs 0 0 + i ≤ get_or xs i 0 =
    subst (λ (k : ℕ). get_or xs 0 0 + i ≤ get_or xs k 0) here (climbs xs up 0 i (omega arith)) in
    let ahead : get_or xs i 0 + more ≤ get_or xs (length xs - 1) 0 =
    subst (λ (k : ℕ). get_or xs i 0 + more ≤ get_or xs k 0) top (climbs xs up i more (omega arith)) in
    omega (arith, from, to, behind, ahead)

-- a number behind the last of a run isn't one of them
pub behind_run : (xs : List ℕ) (n least : ℕ) → ((i : ℕ) → i < length xs → get_or xs i 0 ≡ get_or xs 0 0 + i)
    → Some least ≡ slice_get xs 0 → least + length xs ≤ n → has n xs ≡ false
behind_run xs n least run first behind = has_none n xs (λ k within e.
    let from : get_or xs 0 0 ≡ least = get_or_from_slice_get xs 0 least 0 (sym first) in
    omega (arith, run k within, from, e, behind))
