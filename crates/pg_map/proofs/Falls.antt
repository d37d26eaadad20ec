-- On a cycle of steps by which measures fall, the greatest priority is even.
use Rattle.pg_map.proofs.Common.{◌≡◌, ℕ, zero, suc, ◌%◌, ◌<◌, ◌≤◌, Some, None, Bool, true, false, cond, leb, List, [], ◌∷◌, ◌++◌, inl, inr}
use Rattle.pg_map.proofs.Common.{take, length, map, get_or, MatchBool, arith, subst, refl, eq-eqb, leb-true, le-leb, All-nil, All-cons}
use Rattle.pg_map.proofs.Common.{All-head, All-tail, sum_by-cons, IsPath, IsGreatest, BoundList, MeasureValue, ListBelow, ListAtMost}
use Rattle.pg_map.proofs.Common.{Covers, width_from, is_odd, at_most_itself, at_most_trans, below_at_most, below_then, then_below}
use Rattle.pg_map.proofs.Common.{never_both, measure_at}
use Rattle.std.specs.List.{All}
use Rattle.std.specs.Option.{IsSome}

pub all_unmap : (f : ℕ → ℕ) (P : ℕ → Type 0) (xs : List ℕ) → All P (map f xs) → All (λ x. P (f x)) xs
all_unmap f P [] h = All-nil (λ x. P (f x))
all_unmap f P (x ∷ xs) h =
    All-cons (λ y. P (f y)) x xs (All-head P (f x) (map f xs) h) (all_unmap f P xs (All-tail P (f x) (map f xs) h))

-- fewer components are compared
pub at_most_fewer : (i j : ℕ) (xs ys : List ℕ) → i ≤ j → ListAtMost (take j xs) (take j ys) → ListAtMost (take i xs) (take i ys)
at_most_fewer zero j xs ys le h = tt
at_most_fewer (suc i) zero xs ys le h = absurd (omega arith)
at_most_fewer (suc i) (suc j) [] ys le h = tt
at_most_fewer (suc i) (suc j) (x ∷ xs) [] le h = absurd h
at_most_fewer (suc i) (suc j) (x ∷ xs) (y ∷ ys) le (inl h) = inl h
at_most_fewer (suc i) (suc j) (x ∷ xs) (y ∷ ys) le (inr (e, h)) = inr (e, at_most_fewer i j xs ys (omega arith) h)

-- a greater priority has fewer bounds of at least it
pub width_falls : (bounds : BoundList) (p q : ℕ) → p ≤ q → width_from bounds q ≤ width_from bounds p
width_falls [] p q le = omega arith
width_falls (b ∷ bounds) p q le = go (leb q b.0) refl (width_falls bounds p q le)
  where
    go : (t : Bool) → leb q b.0 ≡ t → width_from bounds q ≤ width_from bounds p → width_from (b ∷ bounds) q ≤ width_from (b ∷ bounds) p
    go true e h =
        let lt : q ≤ b.0 = leb-true q b.0 e in
        let e' : leb p b.0 ≡ true = le-leb p b.0 (omega arith) in
        rw (sum_by-cons (λ (x : ℕ × ℕ). cond (leb q x.0) 1 0) b bounds, sum_by-cons (λ (x : ℕ × ℕ). cond (leb p x.0) 1 0) b bounds, e, e') (omega arith)
    go false e h =
        rw (sum_by-cons (λ (x : ℕ × ℕ). cond (leb q x.0) 1 0) b bounds, sum_by-cons (λ (x : ℕ × ℕ). cond (leb p x.0) 1 0) b bounds, e) (omega arith)

-- steps by which the lists of the vertices fall: `met` gives the priority of a vertex

module _ (bounds : BoundList) (met : ℕ → ℕ) (list : ℕ → List ℕ) where
  abbrev pub IsAtLeast : ℕ → ℕ → ℕ → Type 0
  IsAtLeast p v w = ListAtMost (take (width_from bounds p) (list w)) (take (width_from bounds p) (list v))

  abbrev pub IsAbove : ℕ → ℕ → ℕ → Type 0
  IsAbove p v w = ListBelow (take (width_from bounds p) (list w)) (take (width_from bounds p) (list v))

  abbrev pub Falls : ℕ → ℕ → Type 0
  Falls v w = MatchBool (is_odd (met v)) (IsAbove (met v) v w) (IsAtLeast (met v) v w)

  falls_here : (v w : ℕ) → Falls v w → IsAtLeast (met v) v w
  falls_here v w h = go (is_odd (met v)) h
    where
      go : (t : Bool) → MatchBool t (IsAbove (met v) v w) (IsAtLeast (met v) v w) → IsAtLeast (met v) v w
      go true k = below_at_most (take (width_from bounds (met v)) (list w)) (take (width_from bounds (met v)) (list v)) k
      go false k = k

  falls_at_least : (v w p : ℕ) → met v ≤ p → Falls v w → IsAtLeast p v w
  falls_at_least v w p le h =
      at_most_fewer (width_from bounds p) (width_from bounds (met v)) (list w) (list v) (width_falls bounds (met v) p le) (falls_here v w h)

  falls_above : (v w p : ℕ) → p % 2 ≡ 1 → met v ≡ p → Falls v w → IsAbove p v w
  falls_above v w p odd e h =
      let odd' : met v % 2 ≡ 1 = omega arith in
      subst (λ q. IsAbove q v w) e
      (subst (λ t. MatchBool t (IsAbove (met v) v w) (IsAtLeast (met v) v w)) (eq-eqb (met v % 2) 1 odd') h)

  at_least_through : (p u v w : ℕ) → IsAtLeast p u v → IsAtLeast p v w → IsAtLeast p u w
  at_least_through p u v w h k =
      at_most_trans (take (width_from bounds p) (list w)) (take (width_from bounds p) (list v)) (take (width_from bounds p) (list u)) k h

  path_at_least : (p v : ℕ) (rest : List ℕ) (w : ℕ) → IsPath Falls v (rest ++ w ∷ []) → All (λ u. met u ≤ p) (v ∷ rest) → IsAtLeast p v w
  path_at_least p v [] w h above = falls_at_least v w p (All-head (λ u. met u ≤ p) v [] above) h.0
  path_at_least p v (u ∷ rest) w h above =
      at_least_through p v u w (falls_at_least v u p (All-head (λ x. met x ≤ p) v (u ∷ rest) above) h.0)
      (path_at_least p u rest w h.1 (All-tail (λ x. met x ≤ p) v (u ∷ rest) above))

  path_above : (p v : ℕ) (rest : List ℕ) (w : ℕ) → IsPath Falls v (rest ++ w ∷ []) → All (λ u. met u ≤ p) (v ∷ rest) → p % 2 ≡ 1
      → (k : ℕ) → k < length (map met (v ∷ rest)) → get_or (map met (v ∷ rest)) k p ≡ p → IsAbove p v w
  path_above p v [] w h above odd zero lt e = falls_above v w p odd e h.0
  path_above p v [] w h above odd (suc k) lt e = absurd (omega arith)
  path_above p v (u ∷ rest) w h above odd zero lt e =
      then_below (take (width_from bounds p) (list w)) (take (width_from bounds p) (list u)) (take (width_from bounds p) (list v))
      (path_at_least p u rest w h.1 (All-tail (λ x. met x ≤ p) v (u ∷ rest) above)) (falls_above v u p odd e h.0)
  path_above p v (u ∷ rest) w h above odd (suc k) lt e =
      below_then (take (width_from bounds p) (list w)) (take (width_from bounds p) (list u)) (take (width_from bounds p) (list v))
      (path_above p u rest w h.1 (All-tail (λ x. met x ≤ p) v (u ∷ rest) above) odd k (omega arith) e)
      (falls_at_least v u p (All-head (λ x. met x ≤ p) v (u ∷ rest) above) h.0)

  -- no cycle of such steps has an odd greatest priority
  pub no_odd_cycle : (v : ℕ) (rest : List ℕ) (p : ℕ) → IsPath Falls v (rest ++ v ∷ []) → IsGreatest p (map met (v ∷ rest)) → p % 2 ≡ 1 → ⊥
  no_odd_cycle v rest p h g odd =
      never_both (take (width_from bounds p) (list v)) (take (width_from bounds p) (list v))
      (path_above p v rest v h (all_unmap met (λ q. q ≤ p) (v ∷ rest) g.above_all) odd g.occurs.0 g.occurs.1 g.occurs.2)
      (at_most_itself (take (width_from bounds p) (list v)))

-- lists of measures

abbrev pub list_of : MeasureValue → List ℕ
list_of None = []
list_of (Some xs) = xs

abbrev pub lists : List MeasureValue → ℕ → List ℕ
lists f v = list_of (measure_at f v)

-- what a list covers is a list, and is less
pub covers_falls : (bounds : BoundList) (p : ℕ) (m n : MeasureValue) → IsSome m → Covers bounds p m n
    → IsSome n × MatchBool (is_odd p)
    (ListBelow (take (width_from bounds p) (list_of n)) (take (width_from bounds p) (list_of m)))
    (ListAtMost (take (width_from bounds p) (list_of n)) (take (width_from bounds p) (list_of m)))
covers_falls bounds p None n s h = absurd (cc s)
covers_falls bounds p (Some xs) None s h = absurd h
covers_falls bounds p (Some xs) (Some ys) s h = (refl, h)
