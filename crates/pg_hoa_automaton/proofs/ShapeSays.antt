-- A nested condition is decided by the outermost of the sets that recur.
use Rattle.std.proofs.Common.{◌≡◌, ℕ, suc, zero, ◌-◌, ◌<◌, ◌≤◌, ◌%◌, Bool, true, false, refl, sym, ap, ◌∙◌, ◌⊎◌, inl, inr, arith}
use Rattle.std.proofs.lemmas.Bool.Decides.{nat_tests}
use Rattle.std.proofs.lemmas.Bool.{eqb-true, eqb-false, eq-eqb, ne_eqb, cases_lt, cases_Bool}
use Rattle.pg_hoa_automaton.specs.declared.shape.Shape.{Shape}
use Rattle.pg_hoa_automaton.specs.declared.shape.Shape.TheVariants.{MaxEven, MaxOdd, MinEven, MinOdd, Always, Never}
use Rattle.pg_hoa_automaton.specs.Formulas.{Formula, holds}
use Rattle.pg_hoa_automaton.specs.Shapes.{is_even, decides, NoneRecurs, IsGreatest, IsLeast, Accepts, place}
use Rattle.pg_hoa_automaton.specs.Mirrors.Nests.{set_at, wanted_at}
use Rattle.pg_hoa_automaton.proofs.Nested.{nested}

-- ---- the outermost set that recurs

pub record IsOutermost (set : ℕ → ℕ) (on : ℕ → Bool) (inside : ℕ) (j : ℕ) : Type 0 where
  pub within : j ≤ inside
  pub recurs : on (set j) ≡ true
  pub further : (i : ℕ) → j < i → i ≤ inside → on (set i) ≡ false

abbrev pub NoneInside : (ℕ → ℕ) → (ℕ → Bool) → ℕ → Type 0
NoneInside set on inside = (i : ℕ) → i ≤ inside → on (set i) ≡ false

-- it is wanted, or else there is none and the innermost is not wanted
abbrev pub IsDecided : (ℕ → ℕ) → (ℕ → Bool) → (ℕ → Bool) → ℕ → Type 0
IsDecided set wanted on inside = ((j : ℕ) × IsOutermost set on inside j × (wanted j ≡ true)) ⊎ (NoneInside set on inside × (wanted 0 ≡ false))

recurs_decides : (wanted : Bool) (set : ℕ) (others : Formula) (on : ℕ → Bool) → on set ≡ true → holds (decides wanted set others) on ≡ wanted
recurs_decides true set others on e = rw e refl
recurs_decides false set others on e = rw e refl

others_decide : (wanted : Bool) (set : ℕ) (others : Formula) (on : ℕ → Bool) → on set ≡ false → holds (decides wanted set others) on ≡ holds others on
others_decide true set others on e = rw e refl
others_decide false set others on e = rw e refl

clash : (b : Bool) → b ≡ true → b ≡ false → ⊥
clash b e d = absurd cc

outermost_recurs : (set : ℕ → ℕ) (wanted : ℕ → Bool) (on : ℕ → Bool) (inside : ℕ) → on (set inside) ≡ true → wanted inside ≡ true
    → IsDecided set wanted on inside
outermost_recurs set wanted on inside e good = inl (inside, record { within = omega arith; recurs = e; further = λ i gt le. absurd (omega arith) }, good)

outermost_wanted : (set : ℕ → ℕ) (wanted : ℕ → Bool) (on : ℕ → Bool) (inside : ℕ) → on (set inside) ≡ true → IsDecided set wanted on inside
    → wanted inside ≡ true
outermost_wanted set wanted on inside e (inl p) = grind (arith, nat_tests, cases_lt p.0 inside)
outermost_wanted set wanted on inside e (inr p) = absurd (clash (on (set inside)) e (p.0 inside (omega arith)))

one_further : (set : ℕ → ℕ) (on : ℕ → Bool) (inside i : ℕ) → on (set (suc inside)) ≡ false → (i ≤ inside → on (set i) ≡ false)
    → i ≤ suc inside → on (set i) ≡ false
one_further set on inside i e below le = grind (arith, nat_tests, cases_lt inside i)

decided_further : (set : ℕ → ℕ) (wanted : ℕ → Bool) (on : ℕ → Bool) (inside : ℕ) → on (set (suc inside)) ≡ false
    → IsDecided set wanted on inside → IsDecided set wanted on (suc inside)
decided_further set wanted on inside e (inl p) = grind (arith, nat_tests)
decided_further set wanted on inside e (inr p) = inr (λ i le. one_further set on inside i e (p.0 i) le, p.1)

decided_inside : (set : ℕ → ℕ) (wanted : ℕ → Bool) (on : ℕ → Bool) (inside : ℕ) → on (set (suc inside)) ≡ false
    → IsDecided set wanted on (suc inside) → IsDecided set wanted on inside
decided_inside set wanted on inside e (inl p) = grind (arith, nat_tests, cases_lt inside p.0)
decided_inside set wanted on inside e (inr p) = inr (λ i le. p.0 i (omega arith), p.1)

pub nested_decided : (set : ℕ → ℕ) (wanted : ℕ → Bool) (on : ℕ → Bool) (inside : ℕ) → holds (nested set wanted inside) on ≡ true
    → IsDecided set wanted on inside
nested_decided set wanted on zero h = grind (arith, nat_tests, cases_Bool (on (set 0)))
nested_decided set wanted on (suc inside) h =
    let others = nested set wanted inside in
    elim (cases_Bool (on (set (suc inside)))) [
      | inl e ↦ outermost_recurs set wanted on (suc inside) e (sym (recurs_decides (wanted (suc inside)) (set (suc inside)) others on e) ∙ h)
      | inr e ↦ decided_further set wanted on inside e
          (nested_decided set wanted on inside (sym (others_decide (wanted (suc inside)) (set (suc inside)) others on e) ∙ h))
    ]

pub decided_nested : (set : ℕ → ℕ) (wanted : ℕ → Bool) (on : ℕ → Bool) (inside : ℕ) → IsDecided set wanted on inside
    → holds (nested set wanted inside) on ≡ true
decided_nested set wanted on zero d = grind (arith, nat_tests, cases_Bool (on (set 0)))
decided_nested set wanted on (suc inside) d =
    let others = nested set wanted inside in
    elim (cases_Bool (on (set (suc inside)))) [
      | inl e ↦ recurs_decides (wanted (suc inside)) (set (suc inside)) others on e ∙ outermost_wanted set wanted on (suc inside) e d
      | inr e ↦ others_decide (wanted (suc inside)) (set (suc inside)) others on e
          ∙ decided_nested set wanted on inside (decided_inside set wanted on inside e d)
    ]

-- ---- parity

even_is : (k : ℕ) → is_even k ≡ true → k % 2 ≡ 0
even_is k e = eqb-true (k % 2) 0 e

is_then_even : (k : ℕ) → k % 2 ≡ 0 → is_even k ≡ true
is_then_even k e = eq-eqb (k % 2) 0 e

odd_is : (k : ℕ) → is_even (suc k) ≡ true → k % 2 ≡ 1
odd_is k e = let next : suc k % 2 ≡ 0 = even_is (suc k) e in omega arith

is_then_odd : (k : ℕ) → k % 2 ≡ 1 → is_even (suc k) ≡ true
is_then_odd k e = is_then_even (suc k) (omega arith)

not_even_is : (k : ℕ) → is_even k ≡ false → k % 2 ≡ 1
not_even_is k e = let differ = eqb-false (k % 2) 0 e in omega arith

is_then_not_even : (k : ℕ) → k % 2 ≡ 1 → is_even k ≡ false
is_then_not_even k e = ne_eqb (k % 2) 0 (λ (z : k % 2 ≡ 0). omega arith)

-- ---- the greatest set, where the sets go down from the outermost

to_greatest : (on : ℕ → Bool) (k j : ℕ) → IsOutermost (λ i. i) on k j → IsGreatest on (suc k) j
to_greatest on k j o = let le : j ≤ k = o.within in record { below = omega arith; recurs = o.recurs; last = λ i gt lt. o.further i gt (omega arith) }

from_greatest : (on : ℕ → Bool) (k j : ℕ) → IsGreatest on (suc k) j → IsOutermost (λ i. i) on k j
from_greatest on k j g = let lt : j < suc k = g.below in record { within = omega arith; recurs = g.recurs; further = λ i gt le. g.last i gt (omega arith) }

-- ---- the least set, where they go up

abbrev up : ℕ → ℕ → ℕ
up k i = suc k - 1 - i

at_up : (on : ℕ → Bool) (k i : ℕ) → i ≤ k → on (up k (k - i)) ≡ on i
at_up on k i le = let same : up k (k - i) ≡ i = omega arith in ap on same

to_least : (on : ℕ → Bool) (k j : ℕ) → IsOutermost (up k) on k j → IsLeast on (suc k) (up k j)
to_least on k j o =
    let le : j ≤ k = o.within in
    record { below = omega arith; recurs = o.recurs; first = λ i lt. sym (at_up on k i (omega arith)) ∙ o.further (k - i) (omega arith) (omega arith) }

from_least : (on : ℕ → Bool) (k m : ℕ) → IsLeast on (suc k) m → IsOutermost (up k) on k (k - m)
from_least on k m l = grind (arith, nat_tests, at_up on k m (omega arith))

to_none_up : (on : ℕ → Bool) (k : ℕ) → NoneInside (up k) on k → NoneRecurs on (suc k)
to_none_up on k empty i lt = sym (at_up on k i (omega arith)) ∙ empty (k - i) (omega arith)

from_none_up : (on : ℕ → Bool) (k : ℕ) → NoneRecurs on (suc k) → NoneInside (up k) on k
from_none_up on k empty i le = empty (up k i) (omega arith)

-- ---- in the words of each shape

abbrev DecidedIn : Shape → ℕ → (ℕ → Bool) → Type 0
DecidedIn shape k on = IsDecided (set_at shape (suc k)) (wanted_at shape (suc k)) on k

pub to_accepts : (shape : Shape) (k : ℕ) (on : ℕ → Bool) → place shape < 4 → DecidedIn shape k on → Accepts shape (suc k) on
to_accepts MaxEven k on h (inl p) = (p.0, to_greatest on k p.0 p.1, even_is p.0 p.2)
to_accepts MaxEven k on h (inr p) = let good : true ≡ false = p.1 in absurd cc
to_accepts MaxOdd k on h (inl p) = inl (p.0, to_greatest on k p.0 p.1, odd_is p.0 p.2)
to_accepts MaxOdd k on h (inr p) = inr (λ i lt. p.0 i (omega arith))
to_accepts MinEven k on h (inl p) = inl (up k p.0, to_least on k p.0 p.1, even_is (up k p.0) p.2)
to_accepts MinEven k on h (inr p) = let odd : up k 0 % 2 ≡ 1 = not_even_is (up k 0) p.1 in inr (to_none_up on k p.0, omega arith)
to_accepts MinOdd k on h (inl p) = inl (up k p.0, to_least on k p.0 p.1, odd_is (up k p.0) p.2)
to_accepts MinOdd k on h (inr p) = let odd : suc (up k 0) % 2 ≡ 1 = not_even_is (suc (up k 0)) p.1 in inr (to_none_up on k p.0, omega arith)
to_accepts Always k on h d = absurd (omega arith)
to_accepts Never k on h d = absurd (omega arith)

wanted_up_even : (k m : ℕ) → m < suc k → m % 2 ≡ 0 → is_even (up k (k - m)) ≡ true
wanted_up_even k m lt e = let same : up k (k - m) ≡ m = omega arith in ap is_even same ∙ is_then_even m e

wanted_up_odd : (k m : ℕ) → m < suc k → m % 2 ≡ 1 → is_even (suc (up k (k - m))) ≡ true
wanted_up_odd k m lt e = let same : up k (k - m) ≡ m = omega arith in ap (λ (i : ℕ). is_even (suc i)) same ∙ is_then_odd m e

pub from_accepts : (shape : Shape) (k : ℕ) (on : ℕ → Bool) → place shape < 4 → Accepts shape (suc k) on → DecidedIn shape k on
from_accepts MaxEven k on h a = inl (a.0, from_greatest on k a.0 a.1, is_then_even a.0 a.2)
from_accepts MaxOdd k on h (inl p) = inl (p.0, from_greatest on k p.0 p.1, is_then_odd p.0 p.2)
from_accepts MaxOdd k on h (inr p) = inr (λ i le. p i (omega arith), refl)
from_accepts MinEven k on h (inl p) = inl (k - p.0, from_least on k p.0 p.1, wanted_up_even k p.0 p.1.below p.2)
from_accepts MinEven k on h (inr p) = inr (from_none_up on k p.0, is_then_not_even (up k 0) (let even : suc k % 2 ≡ 0 = p.1 in omega arith))
from_accepts MinOdd k on h (inl p) = inl (k - p.0, from_least on k p.0 p.1, wanted_up_odd k p.0 p.1.below p.2)
from_accepts MinOdd k on h (inr p) = inr (from_none_up on k p.0, is_then_not_even (suc (up k 0)) (let odd : suc k % 2 ≡ 1 = p.1 in omega arith))
from_accepts Always k on h a = absurd (omega arith)
from_accepts Never k on h a = absurd (omega arith)
