use Rattle.std.proofs.Common.{◌≡◌, ℕ, ◌+◌, ◌-◌, ◌%◌, ◌<◌, ◌≤◌, List, [], ◌∷◌, ◌++◌, inl, inr, length, get_or, arith, subst, sym, refl, rules, of_calls}
use Rattle.pg_measure.specs.Measures.{BoundList}
use Rattle.pg_measure.proofs.Counted.{CountedFrom, counted_is, counted_bounds, counted_push, counted_skip}
use Rattle.pg_measure.proofs.bounds.Bounds.of_counts.Goals as goal

-- a pair of the priority below
counted_more : (counts : List ℕ) (pairs : BoundList) (p : ℕ) → CountedFrom counts p pairs → 0 < p → p ≤ length counts → (p - 1) % 2 ≡ 1
    → 0 < get_or counts (p - 1) 0 → CountedFrom counts (p - 1) (pairs ++ (p - 1, get_or counts (p - 1) 0) ∷ [])
counted_more counts pairs p counted positive within odd some =
    let above : p ≡ p - 1 + 1 = omega arith in
    let at : p - 1 < length counts = omega arith in
    let before : CountedFrom counts (p - 1 + 1) pairs = subst (λ (q : ℕ). CountedFrom counts q pairs) above counted in
    counted_push counts (p - 1) pairs (get_or counts (p - 1) 0) at refl odd some before

below : (p most : ℕ) → p ≤ most → p - 1 ≤ most
below p most h = omega arith

-- without a vertex of the priority below there is no pair of it
counted_less : (counts : List ℕ) (pairs : BoundList) (p : ℕ) → CountedFrom counts p pairs → 0 < p → p ≤ length counts
    → (p - 1 < length counts → (p - 1) % 2 ≡ 1 → 0 < get_or counts (p - 1) 0 → ⊥) → CountedFrom counts (p - 1) pairs
counted_less counts pairs p counted positive within none =
    let above : p ≡ p - 1 + 1 = omega arith in
    counted_skip counts (p - 1) pairs (none (omega arith)) (subst (λ (q : ℕ). CountedFrom counts q pairs) above counted)

counted_all : (counts : List ℕ) (pairs : BoundList) (p : ℕ) → p ≤ 0 → CountedFrom counts p pairs → CountedFrom counts 0 pairs
counted_all counts pairs p h counted = subst (λ (q : ℕ). CountedFrom counts q pairs) (omega arith) counted

pub invariant_of-result : goal.invariant_of-result
invariant_of-result c =
    let all = counted_all c.args.counts.now c.loop-priority.pairs.items c.loop-priority.priority c.loop-priority-test.false c.loop-priority.invariant.counted in
    (counted_bounds c.args.counts.now c.loop-priority.pairs.items all, search (rules, of_calls))

pub returns : goal.returns
returns c = λ game is.
    let all = counted_all c.args.counts.now c.loop-priority.pairs.items c.loop-priority.priority c.loop-priority-test.false c.loop-priority.invariant.counted in
    counted_is game c.args.counts.now c.loop-priority.pairs.items is all

none_there : (n : ℕ) → n ≤ 0 → 0 < n → ⊥
none_there n few some = omega arith

pub loop-priority-preserved : goal.loop-priority-preserved
loop-priority-preserved c = record {
  within = below c.loop-priority.priority _ c.loop-priority.invariant.within;
  counted = counted_less c.args.counts.now c.loop-priority.pairs.items c.loop-priority.priority c.loop-priority.invariant.counted c.loop-priority-test.true c.loop-priority.invariant.within
      (λ at o z. elim c.else-priority-eq1.either [
        | inl w ↦ none_there (get_or c.args.counts.now (c.loop-priority.priority - 1) 0) w.1 z
        | inr w ↦ absurd (w o)
      ]);
}

pub loop-priority-preserved-then-count-gt0 : goal.loop-priority-preserved-then-count-gt0
loop-priority-preserved-then-count-gt0 c = record {
  within = below c.loop-priority.priority _ c.loop-priority.invariant.within;
  counted = subst (CountedFrom c.args.counts.now (c.loop-priority.priority - 1)) (sym c.in_ok-push.ensures.items)
      (counted_more c.args.counts.now c.loop-priority.pairs.items c.loop-priority.priority c.loop-priority.invariant.counted
      c.loop-priority-test.true c.loop-priority.invariant.within c.if-priority-eq1.true c.if-count-gt0.true);
}
