-- The edges that count at a vertex, gone through in order.
use Rattle.pg_check.proofs.Common.{◌≡◌, ◌≢◌, ◌↔◌, ℕ, ◌<◌, ◌≤◌, inl, inr, List, length, get_or, arith, subst, Contains, IsStrictlyIncreasing}
use Rattle.pg_check.proofs.Common.{cases_lt, GameVertex, Answer, winner, passed_or_later, rising_at, Counts, IsLeastLeaving}

pub least_leaving : (game : List GameVertex) (solution : List Answer) (items : List ℕ) (v w k : ℕ)
    → ((x : ℕ) → Contains items x ↔ Counts game solution v x) → IsStrictlyIncreasing items
    → ((x y : ℕ) → x < v → Counts game solution x y → winner solution y ≡ winner solution x)
    → ((j d : ℕ) → j < k → winner solution (get_or items j d) ≡ winner solution v)
    → k < length items → get_or items k w ≡ w → winner solution w ≢ winner solution v → IsLeastLeaving game solution v w
least_leaving game solution items v w k counted rising before passed lt e leaves = record {
  leaving = ((counted w).0 (k, lt, e), leaves);
  least = λ x y leaving. elim (cases_lt x v) [
    | inl below ↦ absurd (leaving.1 (before x y below leaving.0))
    | inr past ↦ elim (cases_lt v x) [
      | inl later ↦ inl later
      | inr upto ↦ inr (let same : v ≡ x = omega arith in same, at_v x y (omega arith) leaving.0 leaving.1)
    ]
  ];
}
  where
    at_v : (x y : ℕ) → x ≡ v → Counts game solution x y → winner solution y ≢ winner solution x → w ≤ y
    at_v x y same counts differs =
        let counts' : Counts game solution v y = subst (λ u. Counts game solution u y) same counts in
        let differs' : winner solution y ≢ winner solution v = subst (λ u. winner solution y ≢ winner solution u) same differs in
        elim (passed_or_later (λ u. winner solution u ≡ winner solution v) items k y passed ((counted y).1 counts')) [
          | inl stays ↦ absurd (differs' stays)
          | inr there ↦ rising_at items rising k there.0 w y there.1 there.2 e there.3
        ]
