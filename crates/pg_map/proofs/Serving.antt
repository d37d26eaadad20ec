-- Lists that are gone through in order, and the first successor that serves a vertex.
use Rattle.pg_map.proofs.Common.{◌≡◌, ℕ, ◌<◌, ◌≤◌, ◌⊎◌, List, Option, length, get_or, inl, inr, arith, sym, subst, Contains}
use Rattle.pg_map.proofs.Common.{IsStrictlyIncreasing, cases_lt, get_or_default, AllPairs-from_increasing, BoundList, MeasureValue, Line}
use Rattle.pg_map.proofs.Common.{line_at, IsServedBy, IsFirstServing}

-- what holds of each vertex at a lower index holds of a vertex of the list, or it stands later
pub passed_or_later : (P : ℕ → Type 0) (items : List ℕ) (k w : ℕ) → ((j d : ℕ) → j < k → P (get_or items j d)) → Contains items w
    → P w ⊎ ((j : ℕ) × (k ≤ j) × (j < length items) × (get_or items j w ≡ w))
passed_or_later P items k w passed (j, lt, e) = elim (cases_lt j k) [
  | inl below ↦ inl (subst P e (passed j w below))
  | inr past ↦ inr (j, past, lt, e)
]

pub all_passed : (P : ℕ → Type 0) (items : List ℕ) (k w : ℕ) → length items ≤ k → ((j d : ℕ) → j < k → P (get_or items j d)) → Contains items w → P w
all_passed P items k w done passed (j, lt, e) = subst P e (passed j w (omega arith))

pub rising_at : (xs : List ℕ) → IsStrictlyIncreasing xs → (j k v w : ℕ) → j ≤ k → k < length xs → get_or xs j v ≡ v → get_or xs k w ≡ w → v ≤ w
rising_at xs rising j k v w le lt e f = elim (cases_lt j k) [
  | inl below ↦
      let less : get_or xs j v < get_or xs k v = AllPairs-from_increasing xs rising j k v below lt in
      let same : get_or xs k v ≡ get_or xs k w = get_or_default xs k v w lt in
      omega arith
  | inr past ↦
      let here : j ≡ k = omega arith in
      let g : get_or xs k v ≡ v = subst (λ i. get_or xs i v ≡ v) here e in
      let same : get_or xs k v ≡ get_or xs k w = get_or_default xs k v w lt in
      omega arith
]

-- none of the successors before index k serves v, and the one at k does
pub first_serving_at : (bounds : BoundList) (lines : ℕ → Option Line) (f : List MeasureValue) (v w k : ℕ) (items : List ℕ)
    → items ≡ (line_at lines v).successors → IsStrictlyIncreasing items
    → ((j d : ℕ) → j < k → ¬ IsServedBy bounds lines f v (get_or items j d))
    → k < length items → get_or items k w ≡ w → IsServedBy bounds lines f v w → IsFirstServing bounds lines f v w
first_serving_at bounds lines f v w k items is rising passed lt e serves = record {
  follows = subst (λ ws. Contains ws w) is (k, lt, e);
  serves = serves;
  first = λ u edge served.
      elim (passed_or_later (λ x. ¬ IsServedBy bounds lines f v x) items k u passed (subst (λ ws. Contains ws u) (sym is) edge)) [
        | inl not ↦ absurd (not served)
        | inr there ↦ rising_at items rising k there.0 w u there.1 there.2 e there.3
      ];
}
