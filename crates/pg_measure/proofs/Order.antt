-- The order of lists, of measures, and of rows.
use Rattle.pg_measure.proofs.Common.{MatchBool, ◌≡◌, ℕ, zero, suc, ◌+◌, ◌<◌, ◌≤◌, Bool, true, false, Some, None, List, [], ◌∷◌, length}
use Rattle.pg_measure.proofs.Common.{take, ◌⊎◌, refl, ◌∙◌, ap, inl, inr, arith, add-one, cases_lt, MeasureValue, ListBelow, ListAtMost}
use Rattle.pg_measure.proofs.Common.{AtMost, IsBelow, CoversFront, MissesFront, FrontAtMost, measure_of}
use Rattle.pg_measure.proofs.Rows.{at_most_itself}

pub below_at_most : (xs ys : List ℕ) → ListBelow xs ys → ListAtMost xs ys
below_at_most [] ys h = tt
below_at_most (x ∷ xs) [] h = h
below_at_most (x ∷ xs) (y ∷ ys) (inl l) = inl l
below_at_most (x ∷ xs) (y ∷ ys) (inr h) = inr (h.0, below_at_most xs ys h.1)

pub at_most_trans : (xs ys zs : List ℕ) → ListAtMost xs ys → ListAtMost ys zs → ListAtMost xs zs
at_most_trans [] ys zs h k = tt
at_most_trans (x ∷ xs) [] zs h k = absurd h
at_most_trans (x ∷ xs) (y ∷ ys) [] h k = absurd k
at_most_trans (x ∷ xs) (y ∷ ys) (z ∷ zs) (inl l) (inl m) = inl (omega arith)
at_most_trans (x ∷ xs) (y ∷ ys) (z ∷ zs) (inl l) (inr m) = let e = m.0 in inl (omega arith)
at_most_trans (x ∷ xs) (y ∷ ys) (z ∷ zs) (inr l) (inl m) = let e = l.0 in inl (omega arith)
at_most_trans (x ∷ xs) (y ∷ ys) (z ∷ zs) (inr l) (inr m) = inr (l.0 ∙ m.0, at_most_trans xs ys zs l.1 m.1)

pub never_both : (xs ys : List ℕ) → ListBelow xs ys → ListAtMost ys xs → ⊥
never_both [] [] h k = h
never_both [] (y ∷ ys) h k = k
never_both (x ∷ xs) [] h k = h
never_both (x ∷ xs) (y ∷ ys) (inl l) (inl m) = omega arith
never_both (x ∷ xs) (y ∷ ys) (inl l) (inr m) = let q = m.0 in omega arith
never_both (x ∷ xs) (y ∷ ys) (inr l) (inl m) = let q = l.0 in omega arith
never_both (x ∷ xs) (y ∷ ys) (inr l) (inr m) = never_both xs ys l.1 m.1

pub at_most_both : (xs ys : List ℕ) → ListAtMost xs ys → ListAtMost ys xs → xs ≡ ys
at_most_both [] [] h k = refl
at_most_both [] (y ∷ ys) h k = absurd k
at_most_both (x ∷ xs) [] h k = absurd h
at_most_both (x ∷ xs) (y ∷ ys) (inl l) (inl m) = absurd (omega arith)
at_most_both (x ∷ xs) (y ∷ ys) (inl l) (inr m) = let q = m.0 in absurd (omega arith)
at_most_both (x ∷ xs) (y ∷ ys) (inr l) (inl m) = let q = l.0 in absurd (omega arith)
at_most_both (x ∷ xs) (y ∷ ys) (inr l) (inr m) = let q = l.0 in let r = at_most_both xs ys l.1 m.1 in cc

below_or_first : (x y : ℕ) (xs ys : List ℕ) → (x < y) ⊎ (y ≤ x) → (y < x) ⊎ (x ≤ y) → ListBelow xs ys ⊎ ListAtMost ys xs
    → ListBelow (x ∷ xs) (y ∷ ys) ⊎ ListAtMost (y ∷ ys) (x ∷ xs)
below_or_first x y xs ys (inl l) k h = inl (inl l)
below_or_first x y xs ys (inr l) (inl k) h = inr (inl k)
below_or_first x y xs ys (inr l) (inr k) (inl h) = inl (inr (omega arith, h))
below_or_first x y xs ys (inr l) (inr k) (inr h) = inr (inr (omega arith, h))

pub below_or : (xs ys : List ℕ) → ListBelow xs ys ⊎ ListAtMost ys xs
below_or [] [] = inr tt
below_or [] (y ∷ ys) = inl tt
below_or (x ∷ xs) [] = inr tt
below_or (x ∷ xs) (y ∷ ys) = below_or_first x y xs ys (cases_lt x y) (cases_lt y x) (below_or xs ys)

-- one list below the other, and one at most the other
pub below_then : (xs ys zs : List ℕ) → ListBelow xs ys → ListAtMost ys zs → ListBelow xs zs
below_then xs ys zs h k = elim (below_or xs zs) [ inl l ↦ l | inr m ↦ absurd (never_both xs ys h (at_most_trans ys zs xs k m)) ]

pub then_below : (xs ys zs : List ℕ) → ListAtMost xs ys → ListBelow ys zs → ListBelow xs zs
then_below xs ys zs h k = elim (below_or xs zs) [ inl l ↦ l | inr m ↦ absurd (never_both ys zs k (at_most_trans zs xs ys m h)) ]

-- what is less in front is less
pub front_below : (k : ℕ) (xs ys : List ℕ) → ListBelow (take k xs) (take k ys) → ListBelow xs ys
front_below zero xs ys h = absurd h
front_below (suc k) [] [] h = absurd h
front_below (suc k) [] (y ∷ ys) h = tt
front_below (suc k) (x ∷ xs) [] h = absurd h
front_below (suc k) (x ∷ xs) (y ∷ ys) (inl l) = inl l
front_below (suc k) (x ∷ xs) (y ∷ ys) (inr h) = inr (h.0, front_below k xs ys h.1)

-- what is at most is at most in front
pub at_most_front : (k : ℕ) (xs ys : List ℕ) → ListAtMost xs ys → ListAtMost (take k xs) (take k ys)
at_most_front zero xs ys h = tt
at_most_front (suc k) [] ys h = tt
at_most_front (suc k) (x ∷ xs) [] h = h
at_most_front (suc k) (x ∷ xs) (y ∷ ys) (inl l) = inl l
at_most_front (suc k) (x ∷ xs) (y ∷ ys) (inr h) = inr (h.0, at_most_front k xs ys h.1)

-- rows, with their marks in front
front_suc : (k : ℕ) (a b : List ℕ) → ListAtMost (take (suc k) a) (take (suc k) b) → k < length a → k < length b → FrontAtMost k (measure_of a) (measure_of b)
front_suc k [] b h p q = absurd (omega arith)
front_suc k (m ∷ xs) [] h p q = absurd (omega arith)
front_suc k (zero ∷ xs) (zero ∷ ys) (inl l) p q = absurd (omega arith)
front_suc k (zero ∷ xs) (zero ∷ ys) (inr h) p q = h.1
front_suc k (zero ∷ xs) (suc n ∷ ys) h p q = tt
front_suc k (suc m ∷ xs) (zero ∷ ys) (inl l) p q = omega arith
front_suc k (suc m ∷ xs) (zero ∷ ys) (inr h) p q = let e = h.0 in omega arith
front_suc k (suc m ∷ xs) (suc n ∷ ys) h p q = tt

pub front_row : (k : ℕ) (a b : List ℕ) → ListAtMost (take (k + 1) a) (take (k + 1) b) → k < length a → k < length b
    → FrontAtMost k (measure_of a) (measure_of b)
front_row k a b h p q = front_suc k a b (rw add-one at h) p q

pub front_rows : (r : Bool) (k : ℕ) (a b : List ℕ) → k < length a → k < length b
    → MatchBool r (ListBelow (take (k + 1) a) (take (k + 1) b)) (ListAtMost (take (k + 1) b) (take (k + 1) a))
    → MatchBool r (FrontAtMost k (measure_of a) (measure_of b)) (FrontAtMost k (measure_of b) (measure_of a))
front_rows true k a b p q h = front_row k a b (below_at_most _ _ h) p q
front_rows false k a b p q h = front_row k b a h q p

-- what covers n covers what is at most n
pub covers_less : (strict : Bool) (k : ℕ) (m n o : MeasureValue) → CoversFront strict k m n → FrontAtMost k o n → CoversFront strict k m o
covers_less strict k None n o h i = tt
covers_less strict k (Some xs) None o h i = absurd h
covers_less strict k (Some xs) (Some ys) None h i = absurd i
covers_less true k (Some xs) (Some ys) (Some zs) h i = then_below (take k zs) (take k ys) (take k xs) i h
covers_less false k (Some xs) (Some ys) (Some zs) h i = at_most_trans (take k zs) (take k ys) (take k xs) i h

-- what doesn't cover n is below what does
pub misses_below : (strict : Bool) (k : ℕ) (m n o : MeasureValue) → MissesFront strict k m n → CoversFront strict k o n → IsBelow m o
misses_below strict k None n o h i = absurd h
misses_below strict k (Some xs) n None h i = tt
misses_below strict k (Some xs) None (Some zs) h i = absurd i
misses_below true k (Some xs) (Some ys) (Some zs) h i = front_below k xs zs (then_below (take k xs) (take k ys) (take k zs) h i)
misses_below false k (Some xs) (Some ys) (Some zs) h i = front_below k xs zs (below_then (take k xs) (take k ys) (take k zs) h i)

pub misses_not : (strict : Bool) (k : ℕ) (m n : MeasureValue) → MissesFront strict k m n → CoversFront strict k m n → ⊥
misses_not strict k None n h i = h
misses_not strict k (Some xs) None h i = i
misses_not true k (Some xs) (Some ys) h i = never_both (take k ys) (take k xs) i h
misses_not false k (Some xs) (Some ys) h i = never_both (take k xs) (take k ys) h i

pub covers_or : (strict : Bool) (k : ℕ) (m n : MeasureValue) → CoversFront strict k m n ⊎ (CoversFront strict k m n → ⊥)
covers_or strict k None n = inl tt
covers_or strict k (Some xs) None = inr (λ h. h)
covers_or true k (Some xs) (Some ys) = elim (below_or (take k ys) (take k xs)) [
  | inl less ↦ inl less
  | inr more ↦ inr (λ h. never_both (take k ys) (take k xs) h more)
]
covers_or false k (Some xs) (Some ys) = elim (below_or (take k xs) (take k ys)) [
  | inl less ↦ inr (λ h. never_both (take k xs) (take k ys) less h)
  | inr more ↦ inl more
]

-- what is more covers what is covered
pub more_covers : (strict : Bool) (k : ℕ) (m n o : MeasureValue) → CoversFront strict k m n → AtMost m o → CoversFront strict k o n
more_covers strict k m n None h i = tt
more_covers strict k None n (Some zs) h i = absurd i
more_covers strict k (Some xs) None (Some zs) h i = absurd h
more_covers true k (Some xs) (Some ys) (Some zs) h i = below_then (take k ys) (take k xs) (take k zs) h (at_most_front k xs zs i)
more_covers false k (Some xs) (Some ys) (Some zs) h i = at_most_trans (take k ys) (take k xs) (take k zs) h (at_most_front k xs zs i)

pub at_most_all : (m n o : MeasureValue) → AtMost m n → AtMost n o → AtMost m o
at_most_all None None o h i = i
at_most_all (Some xs) None None h i = tt
at_most_all (Some xs) None (Some zs) h i = absurd i
at_most_all None (Some ys) o h i = absurd h
at_most_all (Some xs) (Some ys) None h i = tt
at_most_all (Some xs) (Some ys) (Some zs) h i = at_most_trans xs ys zs h i

pub at_most_same : (m : MeasureValue) → AtMost m m
at_most_same None = tt
at_most_same (Some xs) = at_most_itself xs

pub front_at_most : (k : ℕ) (m n : MeasureValue) → AtMost m n → FrontAtMost k m n
front_at_most k None None h = tt
front_at_most k None (Some ys) h = h
front_at_most k (Some xs) None h = tt
front_at_most k (Some xs) (Some ys) h = at_most_front k xs ys h

pub at_most_same_value : (m n : MeasureValue) → AtMost m n → AtMost n m → m ≡ n
at_most_same_value None None h k = refl
at_most_same_value None (Some ys) h k = absurd h
at_most_same_value (Some xs) None h k = absurd k
at_most_same_value (Some xs) (Some ys) h k = ap Some (at_most_both xs ys h k)

pub below_or_at_most : (m n : MeasureValue) → IsBelow m n ⊎ AtMost n m
below_or_at_most None None = inr tt
below_or_at_most None (Some ys) = inr tt
below_or_at_most (Some xs) None = inl tt
below_or_at_most (Some xs) (Some ys) = below_or xs ys

pub below_is : (m n : MeasureValue) → IsBelow m n → AtMost m n
below_is None n h = absurd h
below_is (Some xs) None h = tt
below_is (Some xs) (Some ys) h = below_at_most xs ys h

pub below_not : (m n : MeasureValue) → IsBelow m n → AtMost n m → ⊥
below_not None n h k = h
below_not (Some xs) None h k = k
below_not (Some xs) (Some ys) h k = never_both xs ys h k
