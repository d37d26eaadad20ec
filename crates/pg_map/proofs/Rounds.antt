-- From a set of numbers that a step doesn't leave there is a cycle of steps; and where lists fall along a cycle, strictly at even
-- priorities, its greatest priority is odd.
use Rattle.pg_map.proofs.Common.{◌≡◌, ℕ, zero, suc, ◌+◌, ◌%◌, ◌<◌, ◌≤◌, ◌⊎◌, inl, inr, true, cond, List, [], ◌∷◌, ◌++◌, length, map, get_or}
use Rattle.pg_map.proofs.Common.{arith, subst, refl, nat_tests, count_by, Contains, cases_lt, All-nil, All-cons, All-head, All-tail}
use Rattle.pg_map.proofs.Common.{All-map, All-weaker, sum_by-cons, IsPath, IsGreatest, BoundList}
use Rattle.std.specs.List.{All}
use Rattle.pg_map.proofs.Paths.{IsWay, way_later, path_upto, repeat_or_few}
use Rattle.pg_map.proofs.Falls.{Falls, all_unmap, no_odd_cycle}

pub path_map : (Step Step' : ℕ → ℕ → Type 0) → (Q : ℕ → Type 0) → ((v w : ℕ) → Q v → Step v w → Step' v w × Q w)
    → (v : ℕ) (rest : List ℕ) → Q v → IsPath Step v rest → IsPath Step' v rest
path_map Step Step' Q f v [] q h = tt
path_map Step Step' Q f v (w ∷ rest) q h =
    let k = f v w q h.0 in (k.0, path_map Step Step' Q f w rest k.1 h.1)

-- each step of the one kind is one of the other
pub path_weaker : (Step Step' : ℕ → ℕ → Type 0) → ((v w : ℕ) → Step v w → Step' v w)
    → (v : ℕ) (rest : List ℕ) → IsPath Step v rest → IsPath Step' v rest
path_weaker Step Step' f v rest h = path_map Step Step' (λ _. Unit {0}) (λ v w q s. (f v w s, tt)) v rest tt h

-- a cycle

pub record Cycle (Step : ℕ → ℕ → Type 0) : Type 0 where
  pub start : ℕ
  pub rest : List ℕ
  pub closes : IsPath Step start (rest ++ start ∷ [])

module _ (n : ℕ) (Step : ℕ → ℕ → Type 0) (Held : ℕ → Type 0) (below : (v : ℕ) → Held v → v < n)
    (next : (v : ℕ) → Held v → (w : ℕ) × Step v w × Held w) where
  trace : (v : ℕ) → Held v → ℕ → (u : ℕ) × Held u
  trace v d zero = (v, d)
  trace v d (suc t) = let m = next (trace v d t).0 (trace v d t).1 in (m.0, m.2)

  play : (v : ℕ) → Held v → ℕ → ℕ
  play v d t = (trace v d t).0

  -- the vertices at the `count` steps from `from` on
  stretch : (v : ℕ) → Held v → ℕ → ℕ → List ℕ
  stretch v d from zero = []
  stretch v d from (suc count) = play v d from ∷ stretch v d (suc from) count

  goes : (v : ℕ) (d : Held v) (t : ℕ) → Step (play v d t) (play v d (suc t))
  unfolding play trace
  goes v d t = (next (trace v d t).0 (trace v d t).1).1

  path : (v : ℕ) (d : Held v) (from count : ℕ) → IsPath Step (play v d from) (stretch v d (suc from) count)
  unfolding stretch
  path v d from zero = tt
  path v d from (suc count) = (goes v d from, path v d (suc from) count)

  all_below : (v : ℕ) (d : Held v) (from count : ℕ) → All (λ u. u < n) (stretch v d from count)
  unfolding stretch play
  all_below v d from zero = All-nil (λ u. u < n)
  all_below v d from (suc count) =
      All-cons (λ u. u < n) (play v d from) (stretch v d (suc from) count)
      (below (trace v d from).0 (trace v d from).1) (all_below v d (suc from) count)

  counted : (v : ℕ) (d : Held v) (from count : ℕ) → count_by (λ _. true) (stretch v d from count) ≡ count
  unfolding stretch
  counted v d from zero = refl
  counted v d from (suc count) =
      let e = counted v d (suc from) count in
      let c = sum_by-cons (λ (_ : ℕ). cond true 1 0) (play v d from) (stretch v d (suc from) count) in
      rw c (omega (arith, e))

  way : (v : ℕ) (d : Held v) (count : ℕ) → IsWay Step (stretch v d zero (suc count))
  unfolding stretch
  way v d count = path v d zero count

  pub has_cycle : (v : ℕ) → Held v → Cycle Step
  has_cycle v d = elim (repeat_or_few n (λ _. true) (stretch v d zero (suc n)) (all_below v d zero (suc n))) [
    | inl r ↦
        let cycle = r.twice ∷ (r.between ++ r.twice ∷ r.after) in
        record {
          start = r.twice;
          rest = r.between;
          closes = path_upto Step r.twice r.between r.twice r.after
              (way_later Step r.before cycle (subst (IsWay Step) r.splits (way v d n)));
        }
    | inr le ↦ let e = counted v d zero (suc n) in absurd (omega (arith, le, e))
  ]

-- a list that isn't empty has a greatest element

pub greatest_of : (x : ℕ) (xs : List ℕ) → (p : ℕ) × IsGreatest p (x ∷ xs)
greatest_of x [] = (x, record { occurs = (0, omega arith, refl); above_all = All-cons (λ q. q ≤ x) x [] (omega arith) (All-nil (λ q. q ≤ x)) })
greatest_of x (y ∷ ys) = go (greatest_of y ys)
  where
    weaker : (p q : ℕ) → p ≤ q → (zs : List ℕ) → All (λ z. z ≤ p) zs → All (λ z. z ≤ q) zs
    weaker p q le zs h k d lt = let here : get_or zs k d ≤ p = h k d lt in omega arith

    go : (p : ℕ) × IsGreatest p (y ∷ ys) → (p : ℕ) × IsGreatest p (x ∷ y ∷ ys)
    go (p, g) = elim (cases_lt p x) [
      | inl lt ↦ (
        x,
        record {
          occurs = (0, omega arith, refl);
          above_all = All-cons (λ q. q ≤ x) x (y ∷ ys) (omega arith) (weaker p x (omega arith) (y ∷ ys) g.above_all);
        },
      )
      | inr le ↦ (
        p,
        record {
          occurs = (suc g.occurs.0, (let l : g.occurs.0 < length (y ∷ ys) = g.occurs.1 in omega arith), g.occurs.2);
          above_all = All-cons (λ q. q ≤ p) x (y ∷ ys) le g.above_all;
        },
      )
    ]

-- the numbers of a list have a bound
pub has_bound : (xs : List ℕ) → (n : ℕ) × All (λ x. x < n) xs
has_bound [] = (0, All-nil (λ x. x < 0))
has_bound (x ∷ xs) = go (has_bound xs)
  where
    go : (n : ℕ) × All (λ y. y < n) xs → (n : ℕ) × All (λ y. y < n) (x ∷ xs)
    go (n, h) = (
      suc (x + n),
      All-cons (λ y. y < suc (x + n)) x xs (omega arith) (All-weaker (λ y. y < n) (λ y. y < suc (x + n)) (λ y lt. omega arith) xs h),
    )

pub even_or_odd : (p : ℕ) → (p % 2 ≡ 0) ⊎ (p % 2 ≡ 1)
even_or_odd p = grind arith

-- priorities that are raised by one

occurs_raised : (met more : ℕ → ℕ) (p : ℕ) (xs : List ℕ) → All (λ v. more v ≡ met v + 1) xs → (k : ℕ) → k < length (map met xs)
    → get_or (map met xs) k p ≡ p → Contains (map more xs) (p + 1)
occurs_raised met more p [] raised k lt e = absurd (omega arith)
occurs_raised met more p (x ∷ xs) raised zero lt e =
    (0, omega arith, (let here : more x ≡ met x + 1 = All-head (λ v. more v ≡ met v + 1) x xs raised in omega arith))
occurs_raised met more p (x ∷ xs) raised (suc k) lt e =
    let c = occurs_raised met more p xs (All-tail (λ v. more v ≡ met v + 1) x xs raised) k (omega arith) e in
    (suc c.0, omega (arith, c.1), c.2)

above_raised : (met more : ℕ → ℕ) (p : ℕ) (xs : List ℕ) → All (λ v. more v ≡ met v + 1) xs → All (λ v. met v ≤ p) xs → All (λ v. more v ≤ p + 1) xs
above_raised met more p [] raised above = All-nil (λ v. more v ≤ p + 1)
above_raised met more p (x ∷ xs) raised above = grind (arith, nat_tests)

pub greatest_raised : (met more : ℕ → ℕ) (p : ℕ) (xs : List ℕ) → All (λ v. more v ≡ met v + 1) xs → IsGreatest p (map met xs)
    → IsGreatest (p + 1) (map more xs)
greatest_raised met more p xs raised g = record {
  occurs = occurs_raised met more p xs raised g.occurs.0 g.occurs.1 g.occurs.2;
  above_all = All-map (λ q. q ≤ p + 1) more xs (above_raised met more p xs raised (all_unmap met (λ q. q ≤ p) xs g.above_all));
}

-- a cycle along which lists fall strictly at even priorities has an odd greatest one
pub odd_if_falls : (bounds : BoundList) (met : ℕ → ℕ) (list : ℕ → List ℕ) (v : ℕ) (rest : List ℕ) (q : ℕ)
    → IsPath (Falls bounds (λ u. met u + 1) list) v (rest ++ v ∷ []) → IsGreatest q (map met (v ∷ rest)) → q % 2 ≡ 1
odd_if_falls bounds met list v rest q path greatest = elim (even_or_odd q) [
  | inl even ↦ absurd (no_odd_cycle bounds (λ u. met u + 1) list v rest (q + 1) path
      (greatest_raised met (λ u. met u + 1) q (v ∷ rest) (λ k d lt. refl) greatest) (omega arith))
  | inr odd ↦ odd
]
