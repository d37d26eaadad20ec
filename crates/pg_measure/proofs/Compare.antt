-- What comparing lists tells.
use Rattle.pg_measure.proofs.Common.{nat_tests, common_steps, true≢false, nat_lt, ◌-◌, ◌≡◌, ℕ, zero, suc, ◌<◌, Bool, true, false, List, []}
use Rattle.pg_measure.proofs.Common.{◌∷◌, Some, None, length, get_or, take, drop, refl, ap, sym, ◌∙◌, inl, inr, subst, arith, Ordering}
use Rattle.pg_measure.proofs.Common.{Less, Equal, Greater, MatchOrdering, nat_cmp, ordering_then, is_eq, is_lt, is_le, slice_cmp, ranked}
use Rattle.pg_measure.proofs.Common.{MatchBool, BoundList, MeasureValue, ListBelow, ListAtMost, AtMost, IsBelow, measure_cmp, width_from}
use Rattle.pg_measure.proofs.Common.{measure_from}
use Rattle.pg_measure.proofs.Rows.{at_most_itself}
use Rattle.pg_measure.proofs.Order.{below_at_most, below_is, below_not, at_most_same}

cons_tells : (x y : ℕ) (xs ys : List ℕ) (o r : Ordering) → MatchOrdering o (x < y) (x ≡ y) (y < x)
    → MatchOrdering r (ListBelow xs ys) (xs ≡ ys) (ListBelow ys xs)
    → MatchOrdering (ordering_then o r) (ListBelow (x ∷ xs) (y ∷ ys)) (x ∷ xs ≡ y ∷ ys) (ListBelow (y ∷ ys) (x ∷ xs))
cons_tells x y xs ys Less r h k = inl h
cons_tells x y xs ys Greater r h k = inl h
cons_tells x y xs ys Equal Less h k = inr (h, k)
cons_tells x y xs ys Equal Equal h k = cc
cons_tells x y xs ys Equal Greater h k = inr (sym h, k)

pub slice_cmp_tells : (xs ys : List ℕ) → MatchOrdering (slice_cmp nat_cmp xs ys) (ListBelow xs ys) (xs ≡ ys) (ListBelow ys xs)
slice_cmp_tells [] [] = refl
slice_cmp_tells [] (y ∷ ys) = tt
slice_cmp_tells (x ∷ xs) [] = tt
slice_cmp_tells (x ∷ xs) (y ∷ ys) = cons_tells x y xs ys (nat_cmp x y) (slice_cmp nat_cmp xs ys) (ranked x y (nat_cmp x y) refl) (slice_cmp_tells xs ys)

tells_some : (xs ys : List ℕ) (r : Ordering) → MatchOrdering r (ListBelow xs ys) (xs ≡ ys) (ListBelow ys xs)
    → MatchOrdering r (ListBelow xs ys) (Some xs ≡ Some ys) (ListBelow ys xs)
tells_some xs ys Less h = h
tells_some xs ys Equal h = ap Some h
tells_some xs ys Greater h = h

-- the answer of `cmp` on two lists
pub cmp_tells : (xs ys : List ℕ) (r : Ordering) → r ≡ slice_cmp nat_cmp xs ys → MatchOrdering r (ListBelow xs ys) (Some xs ≡ Some ys) (ListBelow ys xs)
cmp_tells xs ys r e =
    tells_some xs ys r (subst (λ (o : Ordering). MatchOrdering o (ListBelow xs ys) (xs ≡ ys) (ListBelow ys xs)) (sym e) (slice_cmp_tells xs ys))

-- and on two measures
pub measure_cmp_tells : (m n : MeasureValue) → MatchOrdering (measure_cmp m n) (IsBelow m n) (m ≡ n) (IsBelow n m)
measure_cmp_tells None None = refl
measure_cmp_tells None (Some ys) = tt
measure_cmp_tells (Some xs) None = tt
measure_cmp_tells (Some xs) (Some ys) = cmp_tells xs ys (slice_cmp nat_cmp xs ys) refl

-- and on the components of priorities at least p of two measures
pub order_tells : (bs : BoundList) (p w : ℕ) (m n : MeasureValue) (xs ys us vs : List ℕ) (r : Ordering) → Some xs ≡ m → Some ys ≡ n
    → w ≡ width_from bs p → us ≡ take w xs → vs ≡ take w ys → r ≡ slice_cmp nat_cmp us vs
    → MatchOrdering r (IsBelow (measure_from bs p m) (measure_from bs p n)) (measure_from bs p m ≡ measure_from bs p n)
    (IsBelow (measure_from bs p n) (measure_from bs p m))
order_tells bs p w m n xs ys us vs r a b e f g h = rw (← a, ← b, ← e, ← f, ← g) (cmp_tells us vs r h)

-- and whether they are equal
pub equal_tells : (m n : MeasureValue) (r : Ordering) (b : Bool) → b ≡ is_eq r → MatchOrdering r (IsBelow m n) (m ≡ n) (IsBelow n m)
    → (b ≡ true → m ≡ n) × (m ≡ n → b ≡ true)
equal_tells m n Less b e h = (λ t. absurd (true≢false (sym t ∙ e)), λ same. absurd (below_not m n h (subst (λ o. AtMost o m) same (at_most_same m))))
equal_tells m n Equal b e h = (λ _. h, λ _. e)
equal_tells m n Greater b e h = (λ t. absurd (true≢false (sym t ∙ e)), λ same. absurd (below_not n m h (subst (λ o. AtMost m o) same (at_most_same m))))

-- and whether the first is at most the second
at_most_told : (m n : MeasureValue) (r : Ordering) (b : Bool) → b ≡ is_le r → MatchOrdering r (IsBelow m n) (m ≡ n) (IsBelow n m)
    → (b ≡ true → AtMost m n) × (AtMost m n → b ≡ true)
at_most_told m n Less b e h = (λ _. below_is m n h, λ _. e)
at_most_told m n Equal b e h = (λ _. subst (λ o. AtMost m o) h (at_most_same m), λ _. e)
at_most_told m n Greater b e h = (λ t. absurd (true≢false (sym t ∙ e)), λ le. absurd (below_not n m h le))

pub at_most_tells : (m n : MeasureValue) (b : Bool) → b ≡ is_le (measure_cmp m n) → (b ≡ true → AtMost m n) × (AtMost m n → b ≡ true)
at_most_tells m n b e = at_most_told m n (measure_cmp m n) b e (measure_cmp_tells m n)

-- and whether the first is below the second
below_told : (m n : MeasureValue) (r : Ordering) (b : Bool) → b ≡ is_lt r → MatchOrdering r (IsBelow m n) (m ≡ n) (IsBelow n m)
    → MatchBool b (IsBelow m n) (AtMost n m)
below_told m n Less b e h = rw e h
below_told m n Equal b e h = rw e (subst (λ o. AtMost o m) h (at_most_same m))
below_told m n Greater b e h = rw e (below_is n m h)

pub below_tells : (m n : MeasureValue) (b : Bool) → b ≡ is_lt (measure_cmp m n) → MatchBool b (IsBelow m n) (AtMost n m)
below_tells m n b e = below_told m n (measure_cmp m n) b e (measure_cmp_tells m n)

-- and whether a list is less
pub tells_below : (xs ys : List ℕ) (r : Ordering) → MatchOrdering r (ListBelow xs ys) (xs ≡ ys) (ListBelow ys xs)
    → MatchBool (is_lt r) (ListBelow xs ys) (ListAtMost ys xs)
tells_below xs ys Less h = h
tells_below xs ys Equal h = subst (λ zs. ListAtMost zs xs) h (at_most_itself xs)
tells_below xs ys Greater h = below_at_most ys xs h

-- lists that begin alike compare as what follows
one_alike : (x y : ℕ) (xs ys : List ℕ) (r : Bool) → x ≡ y → MatchBool r (ListBelow xs ys) (ListAtMost ys xs)
    → MatchBool r (ListBelow (x ∷ xs) (y ∷ ys)) (ListAtMost (y ∷ ys) (x ∷ xs))
one_alike x y xs ys true e h = inr (e, h)
one_alike x y xs ys false e h = inr (sym e, h)

pub begin_alike : (n : ℕ) (xs ys : List ℕ) (r : Bool) → length xs ≡ length ys → ((k : ℕ) → k < n → get_or xs k 0 ≡ get_or ys k 0)
    → MatchBool r (ListBelow (drop n xs) (drop n ys)) (ListAtMost (drop n ys) (drop n xs))
    → MatchBool r (ListBelow xs ys) (ListAtMost ys xs)
begin_alike zero xs ys r l e h = h
begin_alike (suc n) [] [] r l e h = h
begin_alike (suc n) [] (y ∷ ys) r l e h = absurd (omega arith)
begin_alike (suc n) (x ∷ xs) [] r l e h = absurd (omega arith)
begin_alike (suc n) (x ∷ xs) (y ∷ ys) r l e h =
    one_alike x y xs ys r (e zero (omega arith)) (begin_alike n xs ys r (omega arith) (λ k m. e (suc k) (omega arith)) h)

-- lists of the same numbers are at most each other
pub all_alike : (n : ℕ) (xs ys : List ℕ) → length xs ≡ length ys → n ≡ length xs → ((k : ℕ) → k < n → get_or xs k 0 ≡ get_or ys k 0) → ListAtMost ys xs
all_alike n [] [] l m e = tt
all_alike n [] (y ∷ ys) l m e = absurd (omega arith)
all_alike n (x ∷ xs) [] l m e = absurd (omega arith)
all_alike zero (x ∷ xs) (y ∷ ys) l m e = absurd (omega arith)
all_alike (suc n) (x ∷ xs) (y ∷ ys) l m e =
    one_alike x y xs ys false (e zero (omega arith)) (all_alike n xs ys (omega arith) (omega arith) (λ k o. e (suc k) (omega arith)))

-- what is behind n numbers, as a slice up to the end
pub rest_whole : (n : ℕ) (xs : List ℕ) → take (length xs - n) (drop n xs) ≡ drop n xs
rest_whole n xs = grind (arith, common_steps)

-- and the first numbers that differ decide
pub differ_at : (n : ℕ) (xs ys : List ℕ) (r : Bool) → length xs ≡ length ys → n < length xs
    → ((k : ℕ) → k < n → get_or xs k 0 ≡ get_or ys k 0) → MatchBool r (get_or xs n 0 < get_or ys n 0) (get_or ys n 0 < get_or xs n 0)
    → MatchBool r (ListBelow xs ys) (ListAtMost ys xs)
differ_at n [] ys r l m e h = absurd (omega arith)
differ_at n (x ∷ xs) [] r l m e h = absurd (omega arith)
differ_at zero (x ∷ xs) (y ∷ ys) true l m e h = inl h
differ_at zero (x ∷ xs) (y ∷ ys) false l m e h = inl h
differ_at (suc n) (x ∷ xs) (y ∷ ys) r l m e h =
    one_alike x y xs ys r (e zero (omega arith)) (differ_at n xs ys r (omega arith) (omega arith) (λ k o. e (suc k) (omega arith)) h)

lesser : (x y : ℕ) (r : Bool) → nat_lt x y ≡ r → (x ≡ y → ⊥) → MatchBool r (x < y) (y < x)
lesser x y true e d = grind (arith, nat_tests)
lesser x y false e d = let l : (x < y) → ⊥ = (λ h. grind (arith, nat_tests)) in grind (arith, nat_tests)

-- where the test of two numbers that differ tells
pub lesser_tells : (x y : ℕ) → (x ≡ y → ⊥) → MatchBool (nat_lt x y) (x < y) (y < x)
lesser_tells x y d = lesser x y (nat_lt x y) refl d
