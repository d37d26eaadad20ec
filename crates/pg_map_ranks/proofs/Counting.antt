-- What the tables of a ladder say of its rows.
use Rattle.pg_map_ranks.proofs.Common.{◌≡◌, ℕ, zero, suc, ◌+◌, ◌-◌, ◌<◌, ◌≤◌, inl, inr, List, [], ◌∷◌, ◌++◌, length, get_or, arith, sym, refl}
use Rattle.pg_map_ranks.proofs.Common.{◌∙◌, subst, ap, All, cases_lt, cases_eq, get_or_default, get_or_append_left, get_or-append_right}
use Rattle.pg_map_ranks.proofs.Common.{All-head, All-tail, BoundList, AreBounds, ListFits, width_from, width_is, step_at, component, row}
use Rattle.pg_map_ranks.proofs.Common.{IsLadder, IsBegin, IsBounded, AreCounts}
use Rattle.pg_map_ranks.proofs.Rising.{AreFalling, after_less, after_same, after_greater}

-- components

kept_by : (steps : List ℕ) (p b n : ℕ) → ((j : ℕ) → b ≤ j → j < b + n → step_at steps j < p) → component steps p
    (b + n) ≡ component steps p b
kept_by steps p b zero less = let e : b + 0 ≡ b = omega arith in ap (component steps p) e
kept_by steps p b (suc n) less =
    let e : b + suc n ≡ suc (b + n) = omega arith in
    ap (component steps p) e
    ∙ after_less (step_at steps (b + n)) p (component steps p (b + n)) (less (b + n) (omega arith) (omega arith))
    ∙ kept_by steps p b n (λ j from before. less j from (omega arith))

-- lesser steps leave a component
pub kept : (steps : List ℕ) (p b k : ℕ) → b ≤ k → ((j : ℕ) → b ≤ j → j < k → step_at steps j < p)
    → component steps p k ≡ component steps p b
kept steps p b k le less =
    let n = k - b in
    let e : b + n ≡ k = omega arith in
    ap (component steps p) (sym e) ∙ kept_by steps p b n (λ j from before. less j from (omega arith))

module _ (steps : List ℕ) (b k : ℕ) (begin : IsBegin steps b k) where
  from_begin : component steps (step_at steps k) (suc k) ≡ component steps (step_at steps k) b + 1
  from_begin =
      let e = kept steps (step_at steps k) b k begin.among begin.less in
      let s = after_same (step_at steps k) (step_at steps k) (component steps (step_at steps k) k) refl in
      omega arith

  -- the step before what is lesser is at the same priority
  pub count_same : 0 < b → step_at steps (b - 1) ≡ step_at steps k
      → component steps (step_at steps k) (suc k) ≡ component steps (step_at steps (b - 1)) (suc (b - 1)) + 1
  count_same some same =
      let e : b ≡ suc (b - 1) = omega arith in
      let f : component steps (step_at steps k) b ≡ component steps (step_at steps (b - 1)) (suc (b - 1)) =
      ap (component steps (step_at steps k)) e ∙ ap (λ p. component steps p (suc (b - 1))) (sym same) in
      let s = from_begin in
      omega arith

  -- there is none, or it is at a greater one
  pub count_first : b ≡ 0 → component steps (step_at steps k) (suc k) ≡ 1
  count_first none =
      let f : component steps (step_at steps k) b ≡ 0 = ap (component steps (step_at steps k)) none in
      let s = from_begin in
      omega arith

  pub count_after : 0 < b → (step_at steps (b - 1) ≡ step_at steps k → ⊥) → component steps (step_at steps k) (suc k) ≡ 1
  count_after some other =
      let e : b ≡ suc (b - 1) = omega arith in
      let le = begin.first (b - 1) e in
      let z = after_greater (step_at steps (b - 1)) (step_at steps k) (component steps (step_at steps k) (b - 1)) (omega (arith, other)) in
      let f : component steps (step_at steps k) b ≡ 0 = ap (component steps (step_at steps k)) e ∙ z in
      let s = from_begin in
      omega arith

-- bounds

first_less : (bs : BoundList) (p k : ℕ) (d : ℕ × ℕ) → AreFalling bs → k < length bs → (get_or bs k d).0 ≡ p
    → (j : ℕ) (c : ℕ × ℕ) → j < suc k → p ≤ (get_or bs j c).0
first_less bs p k d falls lt is j c before = elim (cases_eq j k) [
  | inl e ↦
      let same : get_or bs j c ≡ get_or bs k d = ap (λ i. get_or bs i c) e ∙ get_or_default bs k c d lt in
      let q = ap (λ (x : ℕ × ℕ). x.0) same in
      omega arith
  | inr ne ↦
      let same : get_or bs k c ≡ get_or bs k d = get_or_default bs k c d lt in
      let q = ap (λ (x : ℕ × ℕ). x.0) same in
      let f = falls j k c (omega arith) lt in
      omega arith
]

-- the bound of a priority is the last of those of priorities at least it
pub width_at : (bs : BoundList) (p k : ℕ) (d : ℕ × ℕ) → AreFalling bs → k < length bs → (get_or bs k d).0 ≡ p → suc k ≡ width_from bs p
width_at bs p k d falls lt is =
    width_is bs p (suc k) (omega arith) (first_less bs p k d falls lt is)
    (λ j c after within.
    let same : get_or bs k c ≡ get_or bs k d = get_or_default bs k c d lt in
    let q = ap (λ (x : ℕ × ℕ). x.0) same in
    let f = falls k j c (omega arith) within in
    omega arith)

module _ (bs : BoundList) (p n : ℕ) (falls : AreFalling bs) where
  -- where the priority has a bound it is there
  pub stands : IsBounded bs p n → (k : ℕ) × (d : ℕ × ℕ) × (suc k ≡ width_from bs p) × (k < length bs) × (get_or bs k d ≡ d) ×
      (d.0 ≡ p) × (n ≤ d.1)
  stands a =
      let e : (get_or bs a.0 a.1).0 ≡ p = ap (λ (x : ℕ × ℕ). x.0) a.3 ∙ a.4.0 in
      (a.0, a.1, width_at bs p a.0 a.1 falls a.2 e, a.2, a.3, a.4.0, a.4.1)

  read : (w : ℕ) → w ≡ width_from bs p → IsBounded bs p n → ((get_or bs (w - 1) (0, 0)).0 ≡ p) × (n ≤ (get_or bs (w - 1) (0, 0)).1)
  read w is a =
      let s = stands a in
      let at : w - 1 ≡ s.0 = let q = s.2 in omega arith in
      let same : get_or bs (w - 1) (0, 0) ≡ s.1 = ap (λ i. get_or bs i (0, 0)) at ∙ get_or_default bs s.0 (0, 0) s.1 s.3 ∙ s.4 in
      let q = ap (λ (x : ℕ × ℕ). x.0) same in
      let r = ap (λ (x : ℕ × ℕ). x.1) same in
      let t = s.5 in
      let u = s.6 in
      (omega arith, omega arith)

  -- and says what is within it
  pub bounded_here : (w : ℕ) → w ≡ width_from bs p → 0 < w → w ≤ length bs → (get_or bs (w - 1) (0, 0)).0 ≡ p
      → (n ≤ (get_or bs (w - 1) (0, 0)).1 → IsBounded bs p n) × (IsBounded bs p n → n ≤ (get_or bs (w - 1) (0, 0)).1)
  bounded_here w is some within at = (
    λ le. (
      w - 1,
      get_or bs (w - 1) (0, 0),
      omega arith,
      get_or_default bs (w - 1) (get_or bs (w - 1) (0, 0)) (0, 0) (omega arith),
      (at, le),
    ),
    λ a. (read w is a).1,
  )

  -- where it has none nothing is
  pub not_bounded : (w : ℕ) → w ≡ width_from bs p → ((get_or bs (w - 1) (0, 0)).0 ≡ p → ⊥) → IsBounded bs p n → ⊥
  not_bounded w is other a = other (read w is a).0

-- the rows are within the bounds

module _ (bs : BoundList) (steps counts : List ℕ) (bounds : AreBounds bs) (are : AreCounts bs steps counts) where
  within : (i : ℕ) (d : ℕ × ℕ) → i < length bs → (k : ℕ) → k ≤ length steps → component steps (get_or bs i d).0 k ≤ (get_or bs i d).1
  within i d lt zero le = omega arith
  within i d lt (suc k) le =
      let p = (get_or bs i d).0 in
      let before = within i d lt k (omega arith) in
      elim (cases_lt (step_at steps k) p) [
        | inl less ↦ let s = after_less (step_at steps k) p (component steps p k) less in omega arith
        | inr more ↦ elim (cases_eq p (step_at steps k)) [
          | inl same ↦
              let w = width_at bs (step_at steps k) i d bounds.falling lt same in
              let r = read bs (step_at steps k) (get_or counts k 0) bounds.falling (suc i) w (are.bounded k (omega arith)) in
              let is = are.are k (omega arith) in
              let at : suc i - 1 ≡ i = omega arith in
              let here : get_or bs (suc i - 1) (0, 0) ≡ get_or bs i d = ap (λ j. get_or bs j (0, 0)) at ∙ get_or_default bs i (0, 0) d lt in
              let q = ap (λ (x : ℕ × ℕ). x.1) here in
              let c = ap (λ e. component steps e (suc k)) same in
              let n = r.1 in
              omega arith
          | inr other ↦ let z = after_greater (step_at steps k) p (component steps p k) (omega (arith, other)) in omega arith
        ]
      ]

  fits_each : (cs : BoundList) (k : ℕ) → All (λ b. component steps b.0 k ≤ b.1) cs → ListFits cs (row cs steps k)
  fits_each [] k h = tt
  fits_each (b ∷ cs) k h = (
    All-head (λ (x : ℕ × ℕ). component steps x.0 k ≤ x.1) b cs h,
    fits_each cs k (All-tail (λ (x : ℕ × ℕ). component steps x.0 k ≤ x.1) b cs h),
  )

  pub is_ladder : IsLadder bs steps
  is_ladder = record {
    known = λ k d lt.
        let b = are.bounded k lt in
        (b.0, b.1, b.2, b.3, b.4.0 ∙ get_or_default steps k 0 d lt);
    fits = λ k le. fits_each bs k (λ i d lt. within i d lt k le);
  }

fits_at : (steps : List ℕ) (cs : BoundList) (k i : ℕ) (d : ℕ × ℕ) → i < length cs → ListFits cs (row cs steps k)
    → component steps (get_or cs i d).0 k ≤ (get_or cs i d).1
fits_at steps [] k i d lt fits = absurd (omega arith)
fits_at steps (b ∷ cs) k zero d lt fits = fits.0
fits_at steps (b ∷ cs) k (suc i) d lt fits = fits_at steps cs k i d (omega arith) fits.1

-- in a ladder the component that a step makes greater is within its bound
pub ladder_bounded : (bs : BoundList) (steps : List ℕ) (k n : ℕ) → IsLadder bs steps → k < length steps
    → n ≡ component steps (step_at steps k) (suc k) → IsBounded bs (step_at steps k) n
ladder_bounded bs steps k n ladder lt is =
    let a = ladder.known k 0 lt in
    let here : component steps (get_or bs a.0 a.1).0 (suc k) ≤ (get_or bs a.0 a.1).1 = fits_at steps bs (suc k) a.0 a.1 a.2
    (ladder.fits (suc k) (omega arith)) in
    let p : (get_or bs a.0 a.1).0 ≡ step_at steps k = ap (λ (x : ℕ × ℕ). x.0) a.3 ∙ a.4 in
    let q = ap (λ (x : ℕ × ℕ). x.1) a.3 in
    let e = ap (λ d. component steps d (suc k)) p in
    (a.0, a.1, a.2, a.3, (a.4, omega arith))

-- what holds of each of a list and of the one that is pushed
pub pushed : (P : ℕ → ℕ → Type 0) (xs : List ℕ) (x k : ℕ) → length xs ≡ k → ((j : ℕ) → j < k → P (get_or xs j 0) j) → P x k
    → (j : ℕ) → j < k + 1 → P (get_or (xs ++ x ∷ []) j 0) j
pushed P xs x k size each here j lt = elim (cases_lt j k) [
  | inl less ↦ subst (λ y. P y j) (sym (get_or_append_left xs (x ∷ []) 0 j (omega arith))) (each j less)
  | inr ge ↦
      let e : j ≡ k = omega arith in
      let z : k - k ≡ 0 = omega arith in
      let last : get_or (xs ++ x ∷ []) k 0 ≡ x = get_or-append_right xs (x ∷ []) k k 0 size (omega arith) ∙ ap
      (λ i. get_or (x ∷ []) i 0) z in
      subst (λ i. P (get_or (xs ++ x ∷ []) i 0) i) (sym e) (subst (λ y. P y k) (sym last) here)
]
