-- Rows of a ladder rise, and agree where no step changes them.
use Rattle.pg_map_ranks.proofs.Common.{◌≡◌, ℕ, zero, suc, ◌+◌, ◌-◌, ◌<◌, ◌≤◌, ◌⊎◌, inl, inr, true, false, List, [], ◌∷◌, length, get_or, arith}
use Rattle.pg_map_ranks.proofs.Common.{sym, refl, ◌∙◌, subst, ap, nat_le, All, Any, AllPairs, cases_lt, cases_eq, nat_tests, All-head, All-tail}
use Rattle.pg_map_ranks.proofs.Common.{BoundList, ListFits, ListBelow, ListAtMost, components_by_priority, at_most_itself, below_at_most}
use Rattle.pg_map_ranks.proofs.Common.{at_most_trans, then_below, step_at, after_step, component, row, IsBlock}

nat_le_yes : (p q : ℕ) → p ≤ q → nat_le p q ≡ true
nat_le_yes p q h = grind (arith, nat_tests)

nat_le_no : (p q : ℕ) → q < p → nat_le p q ≡ false
nat_le_no p q h = grind (arith, nat_tests)

-- one step

pub after_less : (d p n : ℕ) → d < p → after_step d p n ≡ n
after_less d p n h = grind (arith, nat_tests)

pub after_same : (d p n : ℕ) → p ≡ d → after_step d p n ≡ n + 1
after_same d p n h = grind (arith, nat_tests)

pub after_greater : (d p n : ℕ) → p < d → after_step d p n ≡ 0
after_greater d p n h = grind (arith, nat_tests)

-- components of priorities at least p

in_front : (b : ℕ × ℕ) (bs : BoundList) (p x : ℕ) (xs : List ℕ) → p ≤ b.0
    → components_by_priority (b ∷ bs) p (x ∷ xs) ≡ x ∷ components_by_priority bs p xs
in_front b bs p x xs h = rw (nat_le_yes p b.0 h) refl

not_front : (b : ℕ × ℕ) (bs : BoundList) (p x : ℕ) (xs : List ℕ) → b.0 < p
    → components_by_priority (b ∷ bs) p (x ∷ xs) ≡ components_by_priority bs p xs
not_front b bs p x xs h = rw (nat_le_no p b.0 h) refl

none_front : (bs : BoundList) (p : ℕ) (xs : List ℕ) → All (λ b. b.0 < p) bs → components_by_priority bs p xs ≡ []
none_front [] p xs h = refl
none_front (b ∷ bs) p [] h = refl
none_front (b ∷ bs) p (x ∷ xs) h =
    not_front b bs p x xs (All-head (λ (b : ℕ × ℕ). b.0 < p) b bs h) ∙ none_front bs p xs (All-tail (λ (b : ℕ × ℕ). b.0 < p) b bs h)

abbrev pub AreFalling : BoundList → Type 0
AreFalling bs = AllPairs (λ b c. c.0 < b.0) bs

rest_falls : (b : ℕ × ℕ) (bs : BoundList) → AreFalling (b ∷ bs) → AreFalling bs
rest_falls b bs f = λ i j d l m. f (suc i) (suc j) d (omega arith) (omega arith)

rest_less : (b : ℕ × ℕ) (bs : BoundList) → AreFalling (b ∷ bs) → All (λ c. c.0 < b.0) bs
rest_less b bs f = λ k d m. f 0 (suc k) d (omega arith) (omega arith)

all_less : (p q : ℕ) (bs : BoundList) → p ≤ q → All (λ c. c.0 < p) bs → All (λ c. c.0 < q) bs
all_less p q bs le h = λ k d m. let l = h k d m in omega arith

-- d is one of their priorities
abbrev pub Knows : BoundList → ℕ → Type 0
Knows [] d = ⊥
Knows (b ∷ bs) d = (b.0 ≡ d) ⊎ Knows bs d

knows_at : (bs : BoundList) (d k : ℕ) (c : ℕ × ℕ) → k < length bs → get_or bs k c ≡ c → c.0 ≡ d → Knows bs d
knows_at [] d k c lt is e = absurd (omega arith)
knows_at (b ∷ bs) d zero c lt is e = inl (ap (λ (x : ℕ × ℕ). x.0) is ∙ e)
knows_at (b ∷ bs) d (suc k) c lt is e = inr (knows_at bs d k c (omega arith) is e)

pub knows : (bs : BoundList) (d : ℕ) → Any (λ b. b.0 ≡ d) bs → Knows bs d
knows bs d a = knows_at bs d a.0 a.1 a.2 a.3 a.4

knows_less : (bs : BoundList) (d p : ℕ) → Knows bs d → All (λ c. c.0 < p) bs → d < p
knows_less [] d p k h = absurd k
knows_less (b ∷ bs) d p (inl e) h = let l = All-head (λ (c : ℕ × ℕ). c.0 < p) b bs h in omega arith
knows_less (b ∷ bs) d p (inr k) h = knows_less bs d p k (All-tail (λ (c : ℕ × ℕ). c.0 < p) b bs h)

module _ (steps : List ℕ) where
  -- the components of row k of priorities at least p
  abbrev pub front : BoundList → ℕ → ℕ → List ℕ
  front bs p k = components_by_priority bs p (row bs steps k)

  -- a step at a lesser priority leaves them
  agree_next : (bs : BoundList) (p k : ℕ) → step_at steps k < p → front bs p (suc k) ≡ front bs p k
  agree_next [] p k h = refl
  agree_next (b ∷ bs) p k h = elim (cases_lt b.0 p) [
    | inl lt ↦
        not_front b bs p (component steps b.0 (suc k)) (row bs steps (suc k)) lt ∙ agree_next bs p k h
        ∙ sym (not_front b bs p (component steps b.0 k) (row bs steps k) lt)
    | inr le ↦
        let same : component steps b.0 (suc k) ≡ component steps b.0 k = after_less (step_at steps k) b.0 (component steps b.0 k)
        (omega arith) in
        let rest = agree_next bs p k h in
        let a = in_front b bs p (component steps b.0 (suc k)) (row bs steps (suc k)) le in
        let c = in_front b bs p (component steps b.0 k) (row bs steps k) le in
        cc
  ]

  -- a step at a priority that is no less makes them more
  below_next : (bs : BoundList) (p k : ℕ) → AreFalling bs → Knows bs (step_at steps k) → p ≤ step_at steps k
      → ListBelow (front bs p k) (front bs p (suc k))
  below_next [] p k falls known le = known
  below_next (b ∷ bs) p k falls known le = elim (cases_lt b.0 (step_at steps k)) [
    | inl lt ↦
        absurd (unknown known lt)
    | inr ge ↦
        let in_p : p ≤ b.0 = omega arith in
        rw (
          in_front b bs p (component steps b.0 k) (row bs steps k) in_p,
          in_front b bs p (component steps b.0 (suc k))
              (row bs steps (suc k)) in_p,
        )
        (elim (cases_eq b.0 (step_at steps k)) [
          | inl e ↦ inl (let s = after_same (step_at steps k) b.0 (component steps b.0 k) e in omega arith)
          | inr ne ↦ inr (
            sym (after_less (step_at steps k) b.0 (component steps b.0 k) (omega arith)),
            below_next bs p k (rest_falls b bs falls) (later known ne) le,
          )
        ])
  ]
    where
      unknown : Knows (b ∷ bs) (step_at steps k) → b.0 < step_at steps k → ⊥
      unknown (inl e) lt = omega arith
      unknown (inr known) lt = let l = knows_less bs (step_at steps k) b.0 known (rest_less b bs falls) in omega arith

      later : Knows (b ∷ bs) (step_at steps k) → (b.0 ≡ step_at steps k → ⊥) → Knows bs (step_at steps k)
      later (inl e) ne = absurd (ne e)
      later (inr known) ne = known

  at_most_next : (bs : BoundList) (p k : ℕ) → AreFalling bs → Knows bs (step_at steps k) → ListAtMost (front bs p k) (front bs p (suc k))
  at_most_next bs p k falls known = elim (cases_lt (step_at steps k) p) [
    | inl lt ↦ rw (agree_next bs p k lt) (at_most_itself (front bs p k))
    | inr le ↦ below_at_most (front bs p k) (front bs p (suc k)) (below_next bs p k falls known le)
  ]

  module _ (bs : BoundList) (falls : AreFalling bs) (known : (k : ℕ) → k < length steps → Knows bs (step_at steps k)) where
    rises_by : (p i n : ℕ) → i + n ≤ length steps → ListAtMost (front bs p i) (front bs p (i + n))
    rises_by p i zero le = let e : i + 0 ≡ i = omega arith in rw e (at_most_itself (front bs p i))
    rises_by p i (suc n) le =
        let e : i + suc n ≡ suc (i + n) = omega arith in
        rw e (at_most_trans (front bs p i) (front bs p (i + n)) (front bs p (suc (i + n))) (rises_by p i n (omega arith))
        (at_most_next bs p (i + n) falls (known (i + n) (omega arith))))

    -- rows rise
    pub rises : (p i j : ℕ) → i ≤ j → j ≤ length steps → ListAtMost (front bs p i) (front bs p j)
    rises p i j le within =
        let n = j - i in
        let e : i + n ≡ j = omega arith in
        subst (λ k. ListAtMost (front bs p i) (front bs p k)) e (rises_by p i n (omega arith))

    -- strictly at a step at a priority that is no less
    pub rises_strictly : (p i j : ℕ) → i ≤ j → j < length steps → p ≤ step_at steps j → ListBelow (front bs p i) (front bs p (suc j))
    rises_strictly p i j le within at =
        then_below (front bs p i) (front bs p j) (front bs p (suc j)) (rises p i j le (omega arith))
        (below_next bs p j falls (known j within) at)

  agree_by : (bs : BoundList) (p i n high : ℕ) → IsBlock steps p i high → i + n < high → front bs p (i + n) ≡ front bs p i
  agree_by bs p i zero high block lt = let e : i + 0 ≡ i = omega arith in rw e refl
  agree_by bs p i (suc n) high block lt =
      let e : i + suc n ≡ suc (i + n) = omega arith in
      rw e (agree_next bs p (i + n) (block (i + n) (omega arith) (omega arith)) ∙ agree_by bs p i n high block (omega arith))

  -- the rows of a block agree
  pub agree : (bs : BoundList) (p i j high : ℕ) → IsBlock steps p i high → i ≤ j → j < high → front bs p j ≡ front bs p i
  agree bs p i j high block le lt =
      let n = j - i in
      let e : i + n ≡ j = omega arith in
      subst (λ k. front bs p k ≡ front bs p i) e (agree_by bs p i n high block (omega arith))

  -- a row with zeros below p is at most what is at least it from p on
  pub clear_least : (bs : BoundList) (p k : ℕ) (ys : List ℕ) → ((q : ℕ) → q < p → component steps q k ≡ 0) → ListFits bs ys
      → ListAtMost (front bs p k) (components_by_priority bs p ys) → ListAtMost (row bs steps k) ys
  clear_least [] p k ys clear fits h = tt
  clear_least (b ∷ bs) p k [] clear fits h = absurd fits
  clear_least (b ∷ bs) p k (y ∷ ys) clear fits h = elim (cases_lt b.0 p) [
    | inl lt ↦
        let none = clear b.0 lt in
        let h' : ListAtMost (front bs p k) (components_by_priority bs p ys) =
        (rw (not_front b bs p (component steps b.0 k) (row bs steps k) lt, not_front b bs p y ys lt) at h) in
        elim (cases_lt 0 y) [
          | inl positive ↦ inl (omega arith)
          | inr zeros ↦ inr (omega arith, clear_least bs p k ys clear fits.1 h')
        ]
    | inr le ↦
        let h' : ListAtMost (component steps b.0 k ∷ front bs p k) (y ∷ components_by_priority bs p ys) =
        (rw (in_front b bs p (component steps b.0 k) (row bs steps k) le, in_front b bs p y ys le) at h) in
        further (λ r. clear_least bs p k ys clear fits.1 r) h'
  ]
    where
      further : (ListAtMost (front bs p k) (components_by_priority bs p ys) → ListAtMost (row bs steps k) ys)
          → ListAtMost (component steps b.0 k ∷ front bs p k) (y ∷ components_by_priority bs p ys)
          → ListAtMost (row (b ∷ bs) steps k) (y ∷ ys)
      further rest (inl less) = inl less
      further rest (inr more) = inr (more.0, rest more.1)

  -- after a step the components of lesser priorities are 0
  clear_row : (bs : BoundList) (k : ℕ) (ys : List ℕ) → All (λ c. c.0 < step_at steps k) bs → ListFits bs ys → ListAtMost
      (row bs steps (suc k)) ys
  clear_row [] k ys low fits = tt
  clear_row (b ∷ bs) k [] low fits = absurd fits
  clear_row (b ∷ bs) k (y ∷ ys) low fits =
      let zero_here = after_greater (step_at steps k) b.0 (component steps b.0 k)
      (All-head (λ (c : ℕ × ℕ). c.0 < step_at steps k) b bs low) in
      elim (cases_lt 0 y) [
        | inl some ↦ inl (omega arith)
        | inr zeros ↦ inr (omega arith, clear_row bs k ys (All-tail (λ (c : ℕ × ℕ). c.0 < step_at steps k) b bs low) fits.1)
      ]

  -- the row after a step at p is the least that is above the row before from p on
  pub next_least : (bs : BoundList) (p k : ℕ) (ys : List ℕ) → AreFalling bs → step_at steps k ≡ p → ListFits bs ys
      → ListBelow (front bs p k) (components_by_priority bs p ys) → ListAtMost (row bs steps (suc k)) ys
  next_least [] p k ys falls is fits h = tt
  next_least (b ∷ bs) p k [] falls is fits h = absurd fits
  next_least (b ∷ bs) p k (y ∷ ys) falls is fits h = elim (cases_lt b.0 p) [
    | inl lt ↦
        let less = all_less b.0 p bs (omega arith) (rest_less b bs falls) in
        let h' : ListBelow [] [] =
        (rw (
          not_front b bs p (component steps b.0 k) (row bs steps k) lt,
          not_front b bs p y ys lt,
          none_front bs p (row bs steps k) less,
          none_front bs p ys less,
        ) at h) in
        absurd h'
    | inr le ↦
        further (λ r. next_least bs p k ys (rest_falls b bs falls) is fits.1 r) le
        (rw (in_front b bs p (component steps b.0 k) (row bs steps k) le, in_front b bs p y ys le) at h)
  ]
    where
      same : p < b.0 → component steps b.0 (suc k) ≡ component steps b.0 k
      same lt = after_less (step_at steps k) b.0 (component steps b.0 k) (omega arith)

      more : b.0 ≡ p → component steps b.0 (suc k) ≡ component steps b.0 k + 1
      more e = after_same (step_at steps k) b.0 (component steps b.0 k) (omega arith)

      low : b.0 ≡ p → All (λ c. c.0 < step_at steps k) bs
      low e = all_less b.0 (step_at steps k) bs (omega arith) (rest_less b bs falls)

      further : (ListBelow (front bs p k) (components_by_priority bs p ys) → ListAtMost (row bs steps (suc k)) ys) → p ≤ b.0
          → ListBelow (component steps b.0 k ∷ front bs p k) (y ∷ components_by_priority bs p ys)
          → ListAtMost (row (b ∷ bs) steps (suc k)) (y ∷ ys)
      further later le (inl less) = elim (cases_eq b.0 p) [
        | inl e ↦ elim (cases_lt (component steps b.0 k + 1) y) [
          | inl lt ↦ inl (let m = more e in omega arith)
          | inr ge ↦ inr (let m = more e in omega arith, clear_row bs k ys (low e) fits.1)
        ]
        | inr ne ↦ inl (let s = same (omega arith) in omega arith)
      ]
      further later le (inr rest) = elim (cases_eq b.0 p) [
        | inl e ↦
            let none = all_less b.0 p bs (omega arith) (rest_less b bs falls) in
            let h' : ListBelow [] [] = (rw (none_front bs p (row bs steps k) none, none_front bs p ys none) at rest.1) in
            absurd h'
        | inr ne ↦ inr (
          (let s = same (omega arith) in let r = rest.0 in omega arith),
          later rest.1,
        )
      ]
