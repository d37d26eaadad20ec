-- A number more, and a number less.
use Rattle.std.proofs.Common.{◌≡◌, ◌≢◌, ℕ, zero, suc, ◌+◌, ◌<◌, ◌≤◌, Bool, true, false, cond, List, [], ◌∷◌, ◌++◌, length, get_or, set}
use Rattle.std.proofs.Common.{refl, sym, ap, arith, ◌⊎◌, inl, inr, length-append}
use Rattle.std.specs.Prelude.{count_by, nat_eq}
use Rattle.std.specs.List.{Contains}
use Rattle.std.proofs.lemmas.Bool.{cases_lt, cases_eq, eq-eqb, ne_eqb}
use Rattle.std.proofs.lemmas.List.Kept.{AllPairs-from_increasing}
use Rattle.std.proofs.lemmas.List.{get_or-set_same, get_or-set_other, get_or_past, length-set}
use Rattle.std.proofs.lemmas.List.Sums.{sum_by-set, sum_by-cons, sum_by_push, count_by-le-length}
use Rattle.pg_coord_partition.specs.Mirrors.Listed.{times, IsVertexSet}

abbrev one : Bool → ℕ
one b = cond b 1 0

abbrev same : ℕ → ℕ → ℕ
same v u = one (nat_eq u v)

same_is : (v u : ℕ) → u ≡ v → same v u ≡ 1
same_is v u e = ap one (eq-eqb u v e)

same_not : (v u : ℕ) → u ≢ v → same v u ≡ 0
same_not v u ne = ap one (ne_eqb u v ne)

times_push : (v : ℕ) (xs : List ℕ) (u : ℕ) → times v (xs ++ u ∷ []) ≡ times v xs + same v u
times_push v xs u = sum_by_push (same v) xs u

times_cons : (v u : ℕ) (xs : List ℕ) → times v (u ∷ xs) ≡ same v u + times v xs
times_cons v u xs = sum_by-cons (same v) u xs

pub marked_below : (marked : List Bool) (v : ℕ) → get_or marked v false ≡ true → v < length marked
marked_below marked v a =
    elim (cases_lt v (length marked)) [
      | inl lt ↦ lt
      | inr le ↦ absurd (cc (get_or_past marked v false le))
    ]

on_by : (b : Bool) → 1 ≤ one b → b ≡ true
on_by true h = refl
on_by false h = absurd (omega arith)

count_more : (marked : List Bool) (v : ℕ) → v < length marked → get_or marked v false ≡ false
    → count_by (λ b. b) (set marked v true) ≡ count_by (λ b. b) marked + 1
count_more marked v lt off =
    let s : count_by (λ b. b) (set marked v true) + one (get_or marked v false) ≡ count_by (λ b. b) marked + 1 =
    sum_by-set (λ (b : Bool). cond b 1 0) marked v true false lt in
    let z : one (get_or marked v false) ≡ 0 = ap one off in
    omega arith

count_less : (marked : List Bool) (v : ℕ) → v < length marked → get_or marked v false ≡ true
    → count_by (λ b. b) (set marked v false) + 1 ≡ count_by (λ b. b) marked
count_less marked v lt on =
    let s : count_by (λ b. b) (set marked v false) + one (get_or marked v false) ≡ count_by (λ b. b) marked + 0 =
    sum_by-set (λ (b : Bool). cond b 1 0) marked v false false lt in
    let z : one (get_or marked v false) ≡ 1 = ap one on in
    omega arith

-- there is a mark that isn't set
pub room_left : (marked : List Bool) (v : ℕ) → v < length marked → get_or marked v false ≡ false → count_by (λ b. b) marked < length marked
room_left marked v lt off =
    let a = count_more marked v lt off in
    let b = count_by-le-length (λ (b : Bool). b) (set marked v true) in
    let c : length (set marked v true) ≡ length marked = simp length-set in
    omega arith

-- the mark of v is set or unset, and the others stay
changed_at : (marked : List Bool) (v u : ℕ) (b : Bool) → v < length marked
    → ((same u v ≡ 1) × (one (get_or (set marked v b) u false) ≡ one b) × (one (get_or marked u false) ≡ one (get_or marked v false)))
    ⊎ ((same u v ≡ 0) × (one (get_or (set marked v b) u false) ≡ one (get_or marked u false)))
changed_at marked v u b lt = elim (cases_eq u v) [
  | inl s ↦ rw s (inl (same_is v v refl, ap one (get_or-set_same marked v b false lt), refl))
  | inr ne ↦ inr (same_not u v (λ q. ne (sym q)), ap one (get_or-set_other marked v u b false ne))
]

-- how often a number is there, after one more
more_at : (marked : List Bool) (v u n : ℕ) → v < length marked → get_or marked v false ≡ false → n ≡ one (get_or marked u false)
    → n + same u v ≡ one (get_or (set marked v true) u false)
more_at marked v u n lt off e = let z : one (get_or marked v false) ≡ 0 = ap one off in
    elim (changed_at marked v u true lt) [ inl h ↦ omega (arith, h.0, h.1, h.2) | inr h ↦ omega (arith, h.0, h.1) ]

-- and after one less
less_at : (marked : List Bool) (v u n : ℕ) → v < length marked → get_or marked v false ≡ true → n + same u v ≡ one (get_or marked u false)
    → n ≡ one (get_or (set marked v false) u false)
less_at marked v u n lt on e = let z : one (get_or marked v false) ≡ 1 = ap one on in
    elim (changed_at marked v u false lt) [ inl h ↦ omega (arith, h.0, h.1, h.2) | inr h ↦ omega (arith, h.0, h.1) ]

-- what is listed comes up at least once
pub contains_times : (xs : List ℕ) (v i d : ℕ) → i < length xs → get_or xs i d ≡ v → 1 ≤ times v xs
contains_times [] v i d lt e = absurd (omega arith)
contains_times (x ∷ xs) v zero d lt e = let c = times_cons v x xs in let s = same_is v x e in omega arith
contains_times (x ∷ xs) v (suc i) d lt e = let c = times_cons v x xs in let r = contains_times xs v i d (omega arith) e in omega arith

pub times_contains : (xs : List ℕ) (v : ℕ) → 1 ≤ times v xs → Contains xs v
times_contains [] v h = absurd (omega arith)
times_contains (x ∷ xs) v h =
    elim (cases_eq x v) [
      | inl e ↦ (zero, omega arith, e)
      | inr ne ↦
          let c = times_cons v x xs in
          let z = same_not v x ne in
          let r = times_contains xs v (omega arith) in
          (suc r.0, omega (arith, r.1), r.2)
    ]

times_twice : (xs : List ℕ) (v i j d : ℕ) → i < j → j < length xs → get_or xs i d ≡ v → get_or xs j d ≡ v → 2 ≤ times v xs
times_twice [] v i j d lt below e f = absurd (omega arith)
times_twice (x ∷ xs) v i zero d lt below e f = absurd (omega arith)
times_twice (x ∷ xs) v zero (suc j) d lt below e f = let c = times_cons v x xs in let s = same_is v x e in let r =
    contains_times xs v j d (omega arith) f in omega arith
times_twice (x ∷ xs) v (suc i) (suc j) d lt below e f = let c = times_cons v x xs in let r =
    times_twice xs v i j d (omega arith) (omega arith) e f in omega arith

one_most : (b : Bool) → one b ≤ 1
one_most true = omega arith
one_most false = omega arith

-- what is listed once and doesn't fall rises
pub apart_by : (xs : List ℕ) (marked : List Bool) (i j d : ℕ) → ((v : ℕ) → times v xs ≡ one (get_or marked v false)) → i < j → j < length xs
    → get_or xs i d ≢ get_or xs j d
apart_by xs marked i j d each lt below e = let t = times_twice xs (get_or xs j d) i j d lt below e refl in let n = each (get_or xs j d) in
    let m = one_most (get_or marked (get_or xs j d) false) in absurd (omega arith)

last_listed : (xs : List ℕ) (marked : List Bool) (room v : ℕ) → IsVertexSet (xs ++ v ∷ []) marked room → get_or marked v false ≡ true
last_listed xs marked room v w = on_by (get_or marked v false) (let e = w.each v in let p = times_push v xs v in let s = same_is v v refl in omega arith)

pub last_below : (xs : List ℕ) (marked : List Bool) (room v : ℕ) → IsVertexSet (xs ++ v ∷ []) marked room → v < length marked
last_below xs marked room v w = marked_below marked v (last_listed xs marked room v w)

pub unlisted : (xs : List ℕ) (marked : List Bool) (room room' v : ℕ) → IsVertexSet (xs ++ v ∷ []) marked room → room ≤ room'
    → IsVertexSet xs (set marked v false) room'
unlisted xs marked room room' v w le =
    let on = last_listed xs marked room v w in
    let lt = marked_below marked v on in
    record {
      size = omega (arith, count_less marked v lt on, length-append xs (v ∷ []), w.size);
      each = λ u. let e = w.each u in let p = times_push u xs v in less_at marked v u (times u xs) lt on (omega arith);
      fits = simp length-set (omega (arith, w.fits));
    }

-- the one that is marked is there
pub marked_listed : (xs : List ℕ) (marked : List Bool) (room v : ℕ) → IsVertexSet xs marked room → get_or marked v false ≡ true → Contains xs v
marked_listed xs marked room v w on = times_contains xs v (let e = w.each v in let o : one (get_or marked v false) ≡ 1 = ap one on in omega arith)

-- what is listed and doesn't fall rises
pub rising_by : (xs : List ℕ) (marked : List Bool) → ((v : ℕ) → times v xs ≡ one (get_or marked v false))
    → ((k : ℕ) → k + 1 < length xs → get_or xs k 0 ≤ get_or xs (k + 1) 0) → (i j d : ℕ) → i < j → j < length xs
    → get_or xs i d < get_or xs j d
rising_by xs marked each up = AllPairs-from_increasing xs (λ k lt. let ne = apart_by xs marked k (k + 1) 0 each (omega arith) lt in
    let le = up k lt in omega arith)
