-- The components of priorities at least p are the first ones.
use Rattle.pg_measure.proofs.Common.{◌≡◌, ℕ, zero, suc, ◌<◌, ◌≤◌, true, false, List, [], ◌∷◌, length, take, get_or, ◌⊎◌, refl, ap, sym, ◌∙◌}
use Rattle.pg_measure.proofs.Common.{inl, inr, arith, nat_le, All, AllPairs, IsPartitionedBy, sum_by-cons, cases_lt, nat_tests, BoundList}
use Rattle.pg_measure.proofs.Common.{width_from, components_from, components_by_priority}

nat_le_yes : (p q : ℕ) → p ≤ q → nat_le p q ≡ true
nat_le_yes p q h = grind (arith, nat_tests)

nat_le_no : (p q : ℕ) → q < p → nat_le p q ≡ false
nat_le_no p q h = grind (arith, nat_tests)

pub width_in : (b : ℕ × ℕ) (bs : BoundList) (p : ℕ) → p ≤ b.0 → width_from (b ∷ bs) p ≡ suc (width_from bs p)
width_in b bs p h = rw (sum_by-cons, nat_le_yes p b.0 h) (omega arith)

width_out : (b : ℕ × ℕ) (bs : BoundList) (p : ℕ) → b.0 < p → width_from (b ∷ bs) p ≡ width_from bs p
width_out b bs p h = rw (sum_by-cons, nat_le_no p b.0 h) (omega arith)

-- where all priorities are less than p there is none
pub width_none : (bs : BoundList) (p : ℕ) → All (λ b. b.0 < p) bs → width_from bs p ≡ 0
width_none [] p h = refl
width_none (b ∷ bs) p h = width_out b bs p (h 0 b (omega arith)) ∙ width_none bs p (λ k d l. h (suc k) d (omega arith))

by_priority_none : (bs : BoundList) (p : ℕ) (xs : List ℕ) → All (λ b. b.0 < p) bs → components_by_priority bs p xs ≡ []
by_priority_none [] p xs h = refl
by_priority_none (b ∷ bs) p [] h = refl
by_priority_none (b ∷ bs) p (x ∷ xs) h =
    rw (nat_le_no p b.0 (h 0 b (omega arith))) (by_priority_none bs p xs (λ k d l. h (suc k) d (omega arith)))

first_by_priority : (b : ℕ × ℕ) (bs : BoundList) (p x : ℕ) (xs : List ℕ) → AllPairs (λ b c. c.0 < b.0) (b ∷ bs) → (p ≤ b.0) ⊎ (b.0 < p)
    → components_from bs p xs ≡ components_by_priority bs p xs
    → components_from (b ∷ bs) p (x ∷ xs) ≡ components_by_priority (b ∷ bs) p (x ∷ xs)
first_by_priority b bs p x xs f (inl l) e = rw (width_in b bs p l, nat_le_yes p b.0 l) (ap (λ t. x ∷ t) e)
first_by_priority b bs p x xs f (inr l) e =
    let below : All (λ c. c.0 < p) bs = λ k d m. let q = f 0 (suc k) d (omega arith) (omega arith) in omega arith in
    rw (width_out b bs p l, width_none bs p below, nat_le_no p b.0 l) (sym (by_priority_none bs p xs below))

swapped : (m n : ℕ) → (m < n) ⊎ (n ≤ m) → (n ≤ m) ⊎ (m < n)
swapped m n (inl l) = inr l
swapped m n (inr l) = inl l

no_components : (n : ℕ) → take {A = ℕ} n [] ≡ []
no_components zero = refl
no_components (suc n) = refl

pub components_are_first : (bs : BoundList) (p : ℕ) (xs : List ℕ) → AllPairs (λ b c. c.0 < b.0) bs → components_from bs p xs ≡ components_by_priority bs p xs
components_are_first [] p xs f = refl
components_are_first (b ∷ bs) p [] f = no_components (width_from (b ∷ bs) p)
components_are_first (b ∷ bs) p (x ∷ xs) f =
    first_by_priority b bs p x xs f (swapped b.0 p (cases_lt b.0 p))
    (components_are_first bs p xs (λ i j d l m. f (suc i) (suc j) d (omega arith) (omega arith)))

-- those before i are at least p, and the others are less
pub width_is : (bs : BoundList) (p i : ℕ) → i ≤ length bs → ((k : ℕ) (d : ℕ × ℕ) → k < i → p ≤ (get_or bs k d).0)
    → ((k : ℕ) (d : ℕ × ℕ) → i ≤ k → k < length bs → (get_or bs k d).0 < p) → i ≡ width_from bs p
width_is [] p i l h n = omega arith
width_is (b ∷ bs) p zero l h n = sym (width_none (b ∷ bs) p (λ k d m. n k d (omega arith) m))
width_is (b ∷ bs) p (suc i) l h n =
    ap suc (width_is bs p i (omega arith) (λ k d m. h (suc k) d (omega arith)) (λ k d m o. n (suc k) d (omega arith) (omega arith)))
    ∙ sym (width_in b bs p (h 0 b (omega arith)))

-- what the test says
pub at_least_from : (p q : ℕ) → nat_le p q ≡ true → p ≤ q
at_least_from p q e = grind (arith, nat_tests)

pub less_from : (p q : ℕ) → nat_le p q ≡ false → q < p
less_from p q e = grind (arith, nat_tests)

falls_within : (bs : BoundList) (p i j : ℕ) (d : ℕ × ℕ) → AllPairs (λ b c. c.0 < b.0) bs → (i < j) ⊎ (j ≤ i) → i ≤ j → j < length bs
    → nat_le p (get_or bs j d).0 ≡ true → nat_le p (get_or bs i d).0 ≡ true
falls_within bs p i j d f (inl h) l m t = let a = at_least_from p (get_or bs j d).0 t in let b = f i j d h m in nat_le_yes p (get_or bs i d).0 (omega arith)
falls_within bs p i j d f (inr h) l m t = let e : j ≡ i = omega arith in rw e at t

-- no priority of at least p comes after a lesser one
pub at_least_falls : (bs : BoundList) (p : ℕ) → AllPairs (λ b c. c.0 < b.0) bs → IsPartitionedBy (λ b. nat_le p b.0) bs
at_least_falls bs p f = λ i j d l m t. falls_within bs p i j d f (cases_lt i j) l m t
