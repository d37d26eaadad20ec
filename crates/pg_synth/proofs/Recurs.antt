-- The greatest recurring priority of a traced play is the rank of the foremost recurring set.
use Rattle.pg_synth.proofs.Common.{◌≡◌, ◌↔◌, ℕ, zero, suc, ◌+◌, ◌*◌, ◌-◌, ◌/◌, ◌%◌, ◌<◌, ◌≤◌, ◌⊎◌, inl, inr, Bool, true, false, List, arith}
use Rattle.pg_synth.proofs.Common.{sym, subst, ◌∙◌, Contains, cases_lt, cases_eq, IsGreatestRecurring, Shape, set_priority, none_priority}
use Rattle.pg_synth.proofs.Ranks.{IsForemost, IsEmpty, rank_rises, rank_same, none_lowest}

-- what a play meets whose run meets the sets `sets t` at step t: at its even places from 2 on the
-- rank of the foremost set, at its odd places 0
pub record Meets (shape : Shape) (n : ℕ) (sets : ℕ → List ℕ) (met : ℕ → ℕ) : Type 0 where
  pub in_range : (t s : ℕ) → Contains (sets t) s → s < n
  pub over_none : (t : ℕ) → none_priority shape n ≤ met (2 * suc t)
  pub over_each : (t s : ℕ) → Contains (sets t) s → set_priority shape n s ≤ met (2 * suc t)
  pub is_one : (t : ℕ) → (met (2 * suc t) ≡ none_priority shape n)
      ⊎ ((s : ℕ) × Contains (sets t) s × (met (2 * suc t) ≡ set_priority shape n s))
  pub answers : (t : ℕ) → met (2 * t + 1) ≡ 0

abbrev pub ListRecurs : (ℕ → List ℕ) → ℕ → Type 0
ListRecurs sets s = ¬ ((t : ℕ) × ((u : ℕ) → t ≤ u → ¬ Contains (sets u) s))

-- some set below n has this rank, or none has
find_rank : (shape : Shape) (n p m : ℕ)
    → ((s : ℕ) × (s < m) × (p ≡ set_priority shape n s)) ⊎ ((s : ℕ) → s < m → ¬ (p ≡ set_priority shape n s))
find_rank shape n p zero = inr (λ s l e. omega arith)
find_rank shape n p (suc m) = elim (cases_eq p (set_priority shape n m)) [
  | inl e ↦ inl (m, omega arith, e)
  | inr ne ↦ elim (find_rank shape n p m) [
    | inl h ↦ inl (h.0, (let l : h.0 < m = h.1 in omega arith), h.2)
    | inr h ↦ inr (λ s l. elim (cases_lt s m) [
      | inl a ↦ h s a
      | inr a ↦ subst (λ x. ¬ (p ≡ set_priority shape n x)) (let e : m ≡ s = omega arith in e) ne
    ])
  ]
]

-- a place past the start is the odd one of a step, or the even one of a later step
half : (u : ℕ) → 1 ≤ u → ((t : ℕ) × (u ≡ 2 * t + 1)) ⊎ ((t : ℕ) × (u ≡ 2 * suc t))
half u h = elim (cases_eq (u % 2) 1) [
  | inl e ↦ inl (u / 2, omega arith)
  | inr e ↦ inr (u / 2 - 1, omega arith)
]

pub at_least_none : (shape : Shape) (n : ℕ) (sets : ℕ → List ℕ) (met : ℕ → ℕ) (p : ℕ) → Meets shape n sets met
    → IsGreatestRecurring met p → none_priority shape n ≤ p
at_least_none shape n sets met p m g =
    let t = g.bounds.0 in
    let a : met (2 * suc t) ≤ p = g.bounds.1 (2 * suc t) (omega arith) in
    let b : none_priority shape n ≤ met (2 * suc t) = m.over_none t in omega arith

-- no set that recurs has a greater rank
pub at_least_each : (shape : Shape) (n : ℕ) (sets : ℕ → List ℕ) (met : ℕ → ℕ) (p s : ℕ) → Meets shape n sets met
    → IsGreatestRecurring met p → ListRecurs sets s → set_priority shape n s ≤ p
at_least_each shape n sets met p s m g r = elim (cases_lt p (set_priority shape n s)) [
  | inl l ↦ absurd (r (
    g.bounds.0,
    λ u le h.
        let a : met (2 * suc u) ≤ p = g.bounds.1 (2 * suc u) (omega arith) in
        let b : set_priority shape n s ≤ met (2 * suc u) = m.over_each u s h in omega arith,
  ))
  | inr l ↦ l
]

-- it is the rank of a set that recurs, if it isn't that of none
pub is_rank : (shape : Shape) (n : ℕ) (sets : ℕ → List ℕ) (met : ℕ → ℕ) (p : ℕ) → Meets shape n sets met
    → IsGreatestRecurring met p → none_priority shape n < p → (s : ℕ) × (s < n) × (p ≡ set_priority shape n s) × ListRecurs sets s
is_rank shape n sets met p m g l = elim (find_rank shape n p n) [
  | inl h ↦ (
    h.0,
    h.1,
    h.2,
    λ (t, away). g.recurs (
      2 * t + 2,
      λ u le e. elim (half u (omega arith)) [
        | inl k ↦ odd_place u k.0 k.1 e
        | inr k ↦
            let e' : met (2 * suc k.0) ≡ p = subst (λ x. met x ≡ p) k.1 e in
            elim (m.is_one k.0) [
              | inl z ↦ omega (arith, z)
              | inr z ↦
                  let same : set_priority shape n z.0 ≡ set_priority shape n h.0 = sym z.2 ∙ e' ∙ h.2 in
                  away k.0 (let e2 : u ≡ 2 * suc k.0 = k.1 in omega arith)
                  (subst (λ x. Contains (sets k.0) x) (rank_same shape n z.0 h.0 (m.in_range k.0 z.0 z.1) h.1 same) z.1)
            ]
      ],
    ),
  )
  | inr h ↦ absurd (g.recurs (
    1,
    λ u le e. elim (half u le) [
      | inl k ↦ odd_place u k.0 k.1 e
      | inr k ↦
          let e' : met (2 * suc k.0) ≡ p = subst (λ x. met x ≡ p) k.1 e in
          elim (m.is_one k.0) [
            | inl z ↦ omega (arith, z)
            | inr z ↦ h z.0 (m.in_range k.0 z.0 z.1) (sym e' ∙ z.2)
          ]
    ],
  ))
]
  where
    odd_place : (u k : ℕ) → u ≡ 2 * k + 1 → met u ≡ p → ⊥
    odd_place u k f e =
        let z : met (2 * k + 1) ≡ 0 = m.answers k in
        let e' : met (2 * k + 1) ≡ p = subst (λ x. met x ≡ p) f e in omega arith

-- in a collection of just the sets that recur
pub foremost_rank : (shape : Shape) (n : ℕ) (sets : ℕ → List ℕ) (met : ℕ → ℕ) (c : ℕ → Bool) (p s : ℕ) → Meets shape n sets met
    → IsGreatestRecurring met p → ((r : ℕ) → r < n → (c r ≡ true) ↔ ListRecurs sets r) → IsForemost shape n c s
    → p ≡ set_priority shape n s
foremost_rank shape n sets met c p s m g just f =
    let a : set_priority shape n s ≤ p = at_least_each shape n sets met p s m g ((just s f.below).0 f.within) in
    let b : none_priority shape n < set_priority shape n s = none_lowest shape n s f.below in
    let r = is_rank shape n sets met p m g (omega arith) in
    let d : set_priority shape n r.0 ≤ set_priority shape n s =
    rank_rises shape n r.0 s r.1 f.below (f.first r.0 r.1 ((just r.0 r.1).1 r.3)) in
    let e : p ≡ set_priority shape n r.0 = r.2 in omega arith

pub empty_rank : (shape : Shape) (n : ℕ) (sets : ℕ → List ℕ) (met : ℕ → ℕ) (c : ℕ → Bool) (p : ℕ) → Meets shape n sets met
    → IsGreatestRecurring met p → ((r : ℕ) → r < n → (c r ≡ true) ↔ ListRecurs sets r) → IsEmpty n c
    → p ≡ none_priority shape n
empty_rank shape n sets met c p m g just none =
    let a : none_priority shape n ≤ p = at_least_none shape n sets met p m g in
    elim (cases_lt (none_priority shape n) p) [
      | inl l ↦
          let r = is_rank shape n sets met p m g l in
          absurd (let x : false ≡ true = sym (none r.0 r.1) ∙ (just r.0 r.1).1 r.3 in cc x)
      | inr le ↦ omega arith
    ]
