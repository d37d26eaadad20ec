-- A row of a ladder, written from its last step back.
use Rattle.pg_map_ranks.proofs.Common.{◌≡◌, ℕ, suc, ◌-◌, ◌<◌, ◌≤◌, ◌⊎◌, inl, inr, List, [], ◌∷◌, length, get_or, set, arith, sym, refl, ◌∙◌}
use Rattle.pg_map_ranks.proofs.Common.{subst, ap, cases_lt, cases_eq, get_or-set_same, get_or-set_other, get_or_default, BoundList, width_from}
use Rattle.pg_map_ranks.proofs.Common.{step_at, component, row, IsOrigin, IsBounded}
use Rattle.pg_map_ranks.proofs.Rising.{AreFalling, after_less, after_greater}
use Rattle.pg_map_ranks.proofs.Counting.{kept, stands, width_at}

-- the priority of a bound
abbrev pub priority_at : BoundList → ℕ → ℕ
priority_at bs i = (get_or bs i (0, 0)).0

-- the number at i is the component of the row r, and the step before k is at a greater priority
pub record IsSettled (bs : BoundList) (steps list : List ℕ) (r k i : ℕ) : Type 0 where
  pub is : get_or list i 0 ≡ component steps (priority_at bs i) r
  pub more : (j : ℕ) → k ≡ suc j → priority_at bs i < step_at steps j

-- it is 0, and the component is that of the row k
pub record IsOpen (bs : BoundList) (steps list : List ℕ) (r k i : ℕ) : Type 0 where
  pub none : get_or list i 0 ≡ 0
  pub same : component steps (priority_at bs i) r ≡ component steps (priority_at bs i) k

abbrev pub IsWritten : BoundList → List ℕ → List ℕ → ℕ → ℕ → ℕ → Type 0
IsWritten bs steps list r k i = IsSettled bs steps list r k i ⊎ IsOpen bs steps list r k i

pub at_end : (bs : BoundList) (steps list : List ℕ) (r i : ℕ) → IsWritten bs steps list r 0 i
    → get_or list i 0 ≡ component steps (priority_at bs i) r
at_end bs steps list r i (inl s) = s.is
at_end bs steps list r i (inr o) = o.none ∙ sym o.same

pub is_row : (cs : BoundList) (steps : List ℕ) (r : ℕ) (xs : List ℕ) → length xs ≡ length cs
    → ((i : ℕ) → i < length cs → get_or xs i 0 ≡ component steps (priority_at cs i) r) → xs ≡ row cs steps r
is_row [] steps r [] size each = refl
is_row [] steps r (x ∷ xs) size each = absurd (omega arith)
is_row (b ∷ cs) steps r [] size each = absurd (omega arith)
is_row (b ∷ cs) steps r (x ∷ xs) size each =
    let here : x ≡ component steps b.0 r = each 0 (omega arith) in
    let rest = is_row cs steps r xs (omega arith) (λ i lt. each (suc i) (omega arith)) in
    cc

module _ (bs : BoundList) (steps : List ℕ) (r m b : ℕ) (origin : IsOrigin steps b m) where
  -- where the step is at no lesser priority than that of i, the one before its origin is at a greater one
  more : (i : ℕ) → priority_at bs i ≤ step_at steps m → (j : ℕ) → b ≡ suc j → priority_at bs i < step_at steps j
  more i le j e = let f = origin.more j e in omega arith

  -- a number that isn't written
  stays : (list list' : List ℕ) (i : ℕ) → get_or list' i 0 ≡ get_or list i 0 → (priority_at bs i ≡ step_at steps m → ⊥)
      → IsWritten bs steps list r (suc m) i → IsWritten bs steps list' r b i
  stays list list' i same other (inl s) =
      let less = s.more m refl in
      inl (record { is = same ∙ s.is; more = more i (omega arith) })
  stays list list' i same other (inr o) = elim (cases_lt (priority_at bs i) (step_at steps m)) [
    | inl less ↦
        let z = after_greater (step_at steps m) (priority_at bs i) (component steps (priority_at bs i) m) less in
        let s = o.same in
        let n = o.none in
        inl (record { is = omega arith; more = more i (omega arith) })
    | inr ge ↦
        let above : step_at steps m < priority_at bs i = omega (arith, other) in
        let a = after_less (step_at steps m) (priority_at bs i) (component steps (priority_at bs i) m) above in
        let l = kept steps (priority_at bs i) b m origin.among (λ j from lt. let s = origin.no_more j from lt in omega arith) in
        let s = o.same in
        let n = o.none in
        inr (record { none = omega arith; same = omega arith })
  ]

  -- the number that is
  writes : (list list' : List ℕ) (i n : ℕ) → priority_at bs i ≡ step_at steps m → n ≡ component steps (step_at steps m) (suc m)
      → get_or list' i 0 ≡ n → IsWritten bs steps list r (suc m) i → IsWritten bs steps list' r b i
  writes list list' i n here count is (inl s) = let less = s.more m refl in absurd (omega arith)
  writes list list' i n here count is (inr o) =
      let c = ap (λ p. component steps p (suc m)) here in
      let s = o.same in
      inl (record { is = omega arith; more = more i (omega arith) })

module _ (bs : BoundList) (falls : AreFalling bs) (steps : List ℕ) (r m b n w : ℕ) (origin : IsOrigin steps b m)
    (count : n ≡ component steps (step_at steps m) (suc m)) (bounded : IsBounded bs (step_at steps m) n)
    (is_width : w ≡ width_from bs (step_at steps m)) where
  -- the step has a bound
  pub some_width : (1 ≤ w) × (w ≤ length bs)
  some_width = let s = stands bs (step_at steps m) n falls bounded in let e = s.2 in let l = s.3 in (omega arith, omega arith)

  its_priority : priority_at bs (w - 1) ≡ step_at steps m
  its_priority =
      let s = stands bs (step_at steps m) n falls bounded in
      let e : w - 1 ≡ s.0 = let q = s.2 in omega arith in
      let same : get_or bs (w - 1) (0, 0) ≡ s.1 = ap (λ i. get_or bs i (0, 0)) e ∙ get_or_default bs s.0 (0, 0) s.1 s.3 ∙ s.4 in
      ap (λ (x : ℕ × ℕ). x.0) same ∙ s.5

  -- no other bound has it
  other : (i : ℕ) → i < length bs → (i ≡ w - 1 → ⊥) → priority_at bs i ≡ step_at steps m → ⊥
  other i lt ne e = let q = width_at bs (step_at steps m) i (0, 0) falls lt e in omega (arith, ne)

  pub sets : (list : List ℕ) → length list ≡ length bs → (i : ℕ) → i < length bs → IsWritten bs steps list r (suc m) i
      → IsWritten bs steps (set list (w - 1) n) r b i
  sets list size i lt is = elim (cases_eq i (w - 1)) [
    | inl e ↦
        let s = some_width in
        let a = s.0 in
        let z = s.1 in
        subst (λ j. IsWritten bs steps (set list (w - 1) n) r b j) (sym e)
        (writes bs steps r m b origin list (set list (w - 1) n) (w - 1) n its_priority count
        (get_or-set_same list (w - 1) n 0 (omega arith)) (subst (λ j. IsWritten bs steps list r (suc m) j) e is))
    | inr ne ↦
        stays bs steps r m b origin list (set list (w - 1) n) i (get_or-set_other list (w - 1) i n 0 ne) (other i lt ne) is
  ]
