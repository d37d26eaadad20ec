-- Blocks of a ladder tell what a rank covers, and what justifies it.
use Rattle.pg_map_ranks.proofs.Common.{◌≡◌, ℕ, zero, suc, ◌+◌, ◌-◌, ◌%◌, ◌<◌, ◌≤◌, inl, inr, true, false, Some, None, List, [], ◌∷◌, length}
use Rattle.pg_map_ranks.proofs.Common.{arith, sym, refl, ◌∙◌, subst, ap, nat_le, cases_lt, nat_tests, BoundList, MeasureValue, AreBounds}
use Rattle.pg_map_ranks.proofs.Common.{ListBelow, ListAtMost, AtMost, IsBelow, Covers, is_odd, components_by_priority, components_are_first}
use Rattle.pg_map_ranks.proofs.Common.{at_most_trans, then_below, below_then, below_at_most, never_both, at_most_itself, at_most_top}
use Rattle.pg_map_ranks.proofs.Common.{even_or_odd, step_at, after_step, component, row, IsLadder, rank_measure, IsJustified, IsJustifiedFrom}
use Rattle.pg_map_ranks.proofs.Common.{CoversUnder, IsBlock, IsClearRow, IsBlockFrom, IsBlockTo, IsLow, IsHigh}
use Rattle.pg_map_ranks.proofs.Rising.{AreFalling, Knows, knows, front, rises, rises_strictly, agree, clear_least, next_least}

le_yes : (p q : ℕ) → p ≤ q → nat_le p q ≡ true
le_yes p q h = grind (arith, nat_tests)

le_no : (p q : ℕ) → q < p → nat_le p q ≡ false
le_no p q h = grind (arith, nat_tests)

odd_yes : (p : ℕ) → p % 2 ≡ 1 → is_odd p ≡ true
odd_yes p h = grind (arith, nat_tests)

odd_no : (p : ℕ) → p % 2 ≡ 0 → is_odd p ≡ false
odd_no p h = grind (arith, nat_tests)

pub rank_list : (bs : BoundList) (steps : List ℕ) (r : ℕ) → r ≤ length steps → rank_measure bs steps r ≡ Some (row bs steps r)
rank_list bs steps r le = rw (le_yes r (length steps) le) refl

pub rank_top : (bs : BoundList) (steps : List ℕ) (r : ℕ) → length steps < r → rank_measure bs steps r ≡ None
rank_top bs steps r lt = rw (le_no r (length steps) lt) refl

greater_none : (d p n : ℕ) → p < d → after_step d p n ≡ 0
greater_none d p n h = grind (arith, nat_tests)

-- covering, by the components of priorities at least p

module _ (bs : BoundList) (falls : AreFalling bs) (p : ℕ) where
  covers_even : (xs ys : List ℕ) → p % 2 ≡ 0 → ListAtMost (components_by_priority bs p ys) (components_by_priority bs p xs)
      → Covers bs p (Some xs) (Some ys)
  covers_even xs ys even h =
      rw (odd_no p even, components_are_first bs p xs falls, components_are_first bs p ys falls) h

  even_covers : (xs ys : List ℕ) → p % 2 ≡ 0 → Covers bs p (Some xs) (Some ys)
      → ListAtMost (components_by_priority bs p ys) (components_by_priority bs p xs)
  even_covers xs ys even h =
      rw (odd_no p even, components_are_first bs p xs falls, components_are_first bs p ys falls) at h

  covers_odd : (xs ys : List ℕ) → p % 2 ≡ 1 → ListBelow (components_by_priority bs p ys) (components_by_priority bs p xs)
      → Covers bs p (Some xs) (Some ys)
  covers_odd xs ys odd h =
      rw (odd_yes p odd, components_are_first bs p xs falls, components_are_first bs p ys falls) h

  odd_covers : (xs ys : List ℕ) → p % 2 ≡ 1 → Covers bs p (Some xs) (Some ys)
      → ListBelow (components_by_priority bs p ys) (components_by_priority bs p xs)
  odd_covers xs ys odd h =
      rw (odd_yes p odd, components_are_first bs p xs falls, components_are_first bs p ys falls) at h

-- what covers is at least as much
at_least_covers : (bs : BoundList) → AreFalling bs → (p : ℕ) (xs ys : List ℕ) → Covers bs p (Some xs) (Some ys)
    → ListAtMost (components_by_priority bs p ys) (components_by_priority bs p xs)
at_least_covers bs falls p xs ys h = elim (even_or_odd p) [
  | inl even ↦ even_covers bs falls p xs ys even h
  | inr odd ↦ below_at_most (components_by_priority bs p ys) (components_by_priority bs p xs) (odd_covers bs falls p xs ys odd h)
]

-- top covers only top
top_covers : (bs : BoundList) (p : ℕ) (o : MeasureValue) → Covers bs p o None → o ≡ None
top_covers bs p None h = refl
top_covers bs p (Some xs) h = absurd h

pub top_justifies : (bs : BoundList) (p : ℕ) (m : MeasureValue) → IsJustified bs p m None
top_justifies bs p m o fits covers = subst (λ (x : MeasureValue). AtMost m x) (sym (top_covers bs p o covers)) (at_most_top m)

module _ (bs : BoundList) (steps : List ℕ) (bounds : AreBounds bs) (ladder : IsLadder bs steps) (p : ℕ) where
  known : (k : ℕ) → k < length steps → Knows bs (step_at steps k)
  known k lt = knows bs (step_at steps k) (ladder.known k 0 lt)

  -- what justifies a row, if each row of a rank from low on does
  by_rows : (r low : ℕ) → ((k : ℕ) → low ≤ k → k ≤ length steps → IsJustified bs p (Some (row bs steps r)) (Some (row bs steps k)))
      → (k : ℕ) → low ≤ k → IsJustified bs p (Some (row bs steps r)) (rank_measure bs steps k)
  by_rows r low h k le = elim (cases_lt (length steps) k) [
    | inl lt ↦ subst (IsJustified bs p (Some (row bs steps r))) (sym (rank_top bs steps k lt)) (top_justifies bs p (Some (row bs steps r)))
    | inr within ↦ subst (IsJustified bs p (Some (row bs steps r))) (sym (rank_list bs steps k within)) (h k le within)
  ]

  clear_below : (r : ℕ) → ((k : ℕ) → r ≡ suc k → p ≤ step_at steps k) → (q : ℕ) → q < p → component steps q r ≡ 0
  clear_below zero clear q lt = refl
  clear_below (suc k) clear q lt = let le = clear k refl in greater_none (step_at steps k) q (component steps q k) (omega arith)

  from_top : (r low : ℕ) → length steps < low → IsJustifiedFrom bs steps p r low
  from_top r low lt k le =
      subst (λ m. IsJustified bs p (rank_measure bs steps r) m) (sym (rank_top bs steps k (omega arith)))
      (top_justifies bs p (rank_measure bs steps r))

  from_clear : (r : ℕ) → IsClearRow steps p r → IsJustifiedFrom bs steps p r r
  from_clear r s k le =
      subst (λ m. IsJustified bs p m (rank_measure bs steps k)) (sym (rank_list bs steps r s.list)) (by_rows r r by_row k le)
    where
      by_row : (k : ℕ) → r ≤ k → k ≤ length steps → IsJustified bs p (Some (row bs steps r)) (Some (row bs steps k))
      by_row k le within None fits covers = tt
      by_row k le within (Some ys) fits covers =
          clear_least steps bs p r ys (clear_below r s.clear) fits
          (at_most_trans (front steps bs p r) (front steps bs p k) (components_by_priority bs p ys)
          (rises steps bs bounds.falling known p r k le within) (at_least_covers bs bounds.falling p ys (row bs steps k) covers))

  from_step : (low before : ℕ) → p % 2 ≡ 1 → before < length steps → step_at steps before ≡ p → IsBlock steps p low (suc before)
      → IsJustifiedFrom bs steps p (suc before) low
  from_step low before odd lt is block k le =
      subst (λ m. IsJustified bs p m (rank_measure bs steps k)) (sym (rank_list bs steps (suc before) (omega arith)))
      (by_rows (suc before) low by_row k le)
    where
      last : (k : ℕ) → low ≤ k → k ≤ length steps → ListAtMost (front steps bs p before) (front steps bs p k)
      last k le within = elim (cases_lt k before) [
        | inl less ↦
            let same = agree steps bs p low before (suc before) block (omega arith) (omega arith)
            ∙ sym (agree steps bs p low k (suc before) block le (omega arith)) in
            rw same (at_most_itself (front steps bs p k))
        | inr more ↦ rises steps bs bounds.falling known p before k more within
      ]

      by_row : (k : ℕ) → low ≤ k → k ≤ length steps → IsJustified bs p (Some (row bs steps (suc before))) (Some (row bs steps k))
      by_row k le within None fits covers = tt
      by_row k le within (Some ys) fits covers =
          next_least steps bs p before ys bounds.falling is fits
          (then_below (front steps bs p before) (front steps bs p k) (components_by_priority bs p ys) (last k le within)
          (odd_covers bs bounds.falling p ys (row bs steps k) odd covers))

  pub low_justifies : (r low : ℕ) → IsLow steps p r low → IsJustifiedFrom bs steps p r low
  low_justifies r low (inl top) = from_top r low top
  low_justifies r low (inr (inl clear)) = subst (IsJustifiedFrom bs steps p r) (sym clear.0) (from_clear r clear.1)
  low_justifies r low (inr (inr odd)) =
      let s = odd.0 in
      let e : r ≡ suc s.before = s.follows in
      let lt : s.before < length steps = let l = s.list in omega arith in
      subst (λ j. IsJustifiedFrom bs steps p j low) (sym e)
      (from_step low s.before s.odd lt s.step (subst (IsBlock steps p low) e odd.1))

  -- covering, of rows

  even_row : (r high k : ℕ) → r ≤ length steps → p % 2 ≡ 0 → IsBlockFrom steps p r high → k < high
      → Covers bs p (Some (row bs steps r)) (Some (row bs steps k))
  even_row r high k list even b lt = covers_even bs bounds.falling p (row bs steps r) (row bs steps k) even at_most
    where
      at_most : ListAtMost (front steps bs p k) (front steps bs p r)
      at_most = elim (cases_lt k r) [
        | inl less ↦ rises steps bs bounds.falling known p k r (omega arith) list
        | inr more ↦ rw (agree steps bs p r k high b.block more lt) (at_most_itself (front steps bs p r))
      ]

  even_only : (r high k : ℕ) → p % 2 ≡ 0 → IsBlockFrom steps p r high → k ≤ length steps → high ≤ k
      → Covers bs p (Some (row bs steps r)) (Some (row bs steps k)) → ⊥
  even_only r high k even b within le covers =
      let after = b.after in
      let e : high ≡ suc (high - 1) = omega arith in
      let step = b.last (high - 1) e (omega arith) in
      let less = rises_strictly steps bs bounds.falling known p r (high - 1) (omega arith) (omega arith) step in
      never_both (front steps bs p r) (front steps bs p k)
      (below_then (front steps bs p r) (front steps bs p (suc (high - 1))) (front steps bs p k) less
      (rises steps bs bounds.falling known p (suc (high - 1)) k (omega arith) within))
      (even_covers bs bounds.falling p (row bs steps r) (row bs steps k) even covers)

  odd_row : (r high k : ℕ) → r ≤ length steps → p % 2 ≡ 1 → IsBlockTo steps p r high → k < high
      → Covers bs p (Some (row bs steps r)) (Some (row bs steps k))
  odd_row r high k list odd b lt =
      let before = b.before in
      let e : high ≡ suc (high - 1) = omega arith in
      let step = b.first (high - 1) e in
      covers_odd bs bounds.falling p (row bs steps r) (row bs steps k) odd
      (below_then (front steps bs p k) (front steps bs p (suc (high - 1))) (front steps bs p r)
      (rises_strictly steps bs bounds.falling known p k (high - 1) (omega arith) (omega arith) step)
      (rises steps bs bounds.falling known p (suc (high - 1)) r (omega arith) list))

  odd_only : (r high k : ℕ) → p % 2 ≡ 1 → IsBlockTo steps p r high → k ≤ length steps → high ≤ k
      → Covers bs p (Some (row bs steps r)) (Some (row bs steps k)) → ⊥
  odd_only r high k odd b within le covers =
      never_both (front steps bs p k) (front steps bs p r)
      (odd_covers bs bounds.falling p (row bs steps r) (row bs steps k) odd covers) at_most
    where
      at_most : ListAtMost (front steps bs p r) (front steps bs p k)
      at_most = elim (cases_lt k r) [
        | inl less ↦
            let before = b.before in
            let same = agree steps bs p high r (r + 1) b.block before (omega arith)
            ∙ sym (agree steps bs p high k (r + 1) b.block le (omega arith)) in
            rw same (at_most_itself (front steps bs p k))
        | inr more ↦ rises steps bs bounds.falling known p r k more within
      ]

  by_lists : (r k : ℕ) → r ≤ length steps → k ≤ length steps → Covers bs p (Some (row bs steps r)) (Some (row bs steps k))
      → Covers bs p (rank_measure bs steps r) (rank_measure bs steps k)
  by_lists r k le within h =
      subst (λ m. Covers bs p m (rank_measure bs steps k)) (sym (rank_list bs steps r le))
      (subst (λ m. Covers bs p (Some (row bs steps r)) m) (sym (rank_list bs steps k within)) h)

  -- a list covers lists alone
  lists_by : (r k : ℕ) → r ≤ length steps → Covers bs p (rank_measure bs steps r) (rank_measure bs steps k)
      → (k ≤ length steps) × Covers bs p (Some (row bs steps r)) (Some (row bs steps k))
  lists_by r k le h =
      let h' : Covers bs p (Some (row bs steps r)) (rank_measure bs steps k) =
      subst (λ m. Covers bs p m (rank_measure bs steps k)) (rank_list bs steps r le) h in
      elim (cases_lt (length steps) k) [
        | inl lt ↦ absurd (subst (λ m. Covers bs p (Some (row bs steps r)) m) (rank_top bs steps k lt) h')
        | inr within ↦ (within, subst (λ m. Covers bs p (Some (row bs steps r)) m) (rank_list bs steps k within) h')
      ]

  high_covers : (r high : ℕ) → r ≤ length steps → IsHigh steps p r high → (k : ℕ) → k < high
      → Covers bs p (rank_measure bs steps r) (rank_measure bs steps k)
  high_covers r high list (inl even) k lt =
      let within = even.1.within in
      by_lists r k list (omega arith) (even_row r high k list even.0 even.1 lt)
  high_covers r high list (inr odd) k lt =
      let before = odd.1.before in
      by_lists r k list (omega arith) (odd_row r high k list odd.0 odd.1 lt)

  high_only : (r high : ℕ) → r ≤ length steps → IsHigh steps p r high → (k : ℕ)
      → Covers bs p (rank_measure bs steps r) (rank_measure bs steps k) → k < high
  high_only r high list (inl even) k covers = elim (cases_lt k high) [
    | inl lt ↦ lt
    | inr le ↦ let l = lists_by r k list covers in absurd (even_only r high k even.0 even.1 l.0 le l.1)
  ]
  high_only r high list (inr odd) k covers = elim (cases_lt k high) [
    | inl lt ↦ lt
    | inr le ↦ let l = lists_by r k list covers in absurd (odd_only r high k odd.0 odd.1 l.0 le l.1)
  ]

  pub high_is : (r high : ℕ) → r ≤ length steps → IsHigh steps p r high → CoversUnder bs steps p r (Some high)
  high_is r high list is k = (high_covers r high list is k, high_only r high list is k)

  -- ranks compare as their measures do
  pub rank_at_most : (i j : ℕ) → i ≤ j → AtMost (rank_measure bs steps i) (rank_measure bs steps j)
  rank_at_most i j le = elim (cases_lt (length steps) j) [
    | inl lt ↦ subst (AtMost (rank_measure bs steps i)) (sym (rank_top bs steps j lt)) (at_most_top (rank_measure bs steps i))
    | inr within ↦
        subst (λ m. AtMost m (rank_measure bs steps j)) (sym (rank_list bs steps i (omega arith)))
        (subst (λ m. AtMost (Some (row bs steps i)) m) (sym (rank_list bs steps j within))
        (clear_least steps bs 0 i (row bs steps j) (λ q lt. absurd (omega arith)) (ladder.fits j within)
        (rises steps bs bounds.falling known 0 i j le within)))
  ]

all_front : (cs : BoundList) (steps : List ℕ) (k : ℕ) → front steps cs 0 k ≡ row cs steps k
all_front [] steps k = refl
all_front (b ∷ cs) steps k = rw (le_yes 0 b.0 (omega arith)) (ap (λ t. component steps b.0 k ∷ t) (all_front cs steps k))

-- the greater rank has the greater measure
pub rank_below : (bs : BoundList) (steps : List ℕ) → AreBounds bs → IsLadder bs steps → (i j : ℕ) → i < j → i ≤ length steps
    → IsBelow (rank_measure bs steps i) (rank_measure bs steps j)
rank_below bs steps bounds ladder i j lt within =
    subst (λ m. IsBelow m (rank_measure bs steps j)) (sym (rank_list bs steps i within)) (elim (cases_lt (length steps) j) [
      | inl top ↦ subst (IsBelow (Some (row bs steps i))) (sym (rank_top bs steps j top)) tt
      | inr list ↦
          let e : j ≡ suc (j - 1) = omega arith in
          let less : ListBelow (front steps bs 0 i) (front steps bs 0 (suc (j - 1))) =
          rises_strictly steps bs bounds.falling (λ k l. knows bs (step_at steps k) (ladder.known k 0 l)) 0 i (j - 1) (omega arith)
          (omega arith)
          (omega arith) in
          subst (IsBelow (Some (row bs steps i))) (sym (rank_list bs steps j list))
          (subst (λ k. ListBelow (row bs steps i) (row bs steps k)) (sym e)
          (rw (all_front bs steps i, all_front bs steps (suc (j - 1))) at less))
    ])
