-- Lists of components: clearing and raising them gives the least list.
use Rattle.pg_measure.proofs.Common.{◌≡◌, ℕ, zero, suc, ◌+◌, ◌-◌, ◌<◌, ◌≤◌, List, [], ◌∷◌, ◌++◌, length, get_or, take, set, replicate, refl}
use Rattle.pg_measure.proofs.Common.{ap, sym, ◌∙◌, inl, inr, arith, ◌⊎◌, Some, None, cases_lt, BoundList, MeasureValue, ListFits, Fits}
use Rattle.pg_measure.proofs.Common.{zeros, ListBelow, ListAtMost, AtMost, cleared}

pub cleared-is : (j : ℕ) (xs : List ℕ) → take j xs ++ replicate (length xs - j) 0 ≡ cleared j xs
cleared-is zero [] = refl
cleared-is (suc j) [] = let e : 0 - suc j ≡ 0 = omega arith in rw e refl
cleared-is zero (x ∷ xs) =
    let e : suc (length xs) - 0 ≡ suc (length xs) = omega arith in
    let f : length xs - 0 ≡ length xs = omega arith in
    let h : replicate (length xs) 0 ≡ cleared zero xs = rw f at (cleared-is zero xs) in
    rw e (ap (λ t. 0 ∷ t) h)
cleared-is (suc j) (x ∷ xs) = let e : suc (length xs) - suc j ≡ length xs - j = omega arith in rw e (ap (λ t. x ∷ t) (cleared-is j xs))

-- the components before j, the one at j plus one, and then zeros
abbrev pub raised : ℕ → List ℕ → List ℕ
raised j [] = []
raised zero (x ∷ xs) = (x + 1) ∷ cleared zero xs
raised (suc j) (x ∷ xs) = x ∷ raised j xs

pub raised-is : (j : ℕ) (xs : List ℕ) → cleared (suc j) (set xs j (get_or xs j 0 + 1)) ≡ raised j xs
raised-is j [] = refl
raised-is zero (x ∷ xs) = refl
raised-is (suc j) (x ∷ xs) = ap (λ t. x ∷ t) (raised-is j xs)

pub same_length : (bs : BoundList) (xs : List ℕ) → ListFits bs xs → length xs ≡ length bs
same_length [] [] f = refl
same_length [] (x ∷ xs) f = absurd f
same_length (b ∷ bs) [] f = absurd f
same_length (b ∷ bs) (x ∷ xs) f = ap suc (same_length bs xs f.1)

pub cleared_fits : (bs : BoundList) (j : ℕ) (xs : List ℕ) → ListFits bs xs → ListFits bs (cleared j xs)
cleared_fits [] j [] f = tt
cleared_fits [] j (x ∷ xs) f = absurd f
cleared_fits (b ∷ bs) j [] f = absurd f
cleared_fits (b ∷ bs) zero (x ∷ xs) f = (omega arith, cleared_fits bs zero xs f.1)
cleared_fits (b ∷ bs) (suc j) (x ∷ xs) f = (f.0, cleared_fits bs j xs f.1)

pub raised_fits : (bs : BoundList) (j : ℕ) (xs : List ℕ) → ListFits bs xs → get_or xs j 0 < (get_or bs j (0, 0)).1 → ListFits bs (raised j xs)
raised_fits [] j [] f h = tt
raised_fits [] j (x ∷ xs) f h = absurd f
raised_fits (b ∷ bs) j [] f h = absurd f
raised_fits (b ∷ bs) zero (x ∷ xs) f h = (omega arith, cleared_fits bs zero xs f.1)
raised_fits (b ∷ bs) (suc j) (x ∷ xs) f h = (f.0, raised_fits bs j xs f.1 h)

pub at_most_itself : (xs : List ℕ) → ListAtMost xs xs
at_most_itself [] = tt
at_most_itself (x ∷ xs) = inr (refl, at_most_itself xs)

pub cleared_covers : (k : ℕ) (xs : List ℕ) → ListAtMost (take k xs) (take k (cleared k xs))
cleared_covers zero xs = tt
cleared_covers (suc k) [] = tt
cleared_covers (suc k) (x ∷ xs) = inr (refl, cleared_covers k xs)

pub raised_covers : (j k : ℕ) (xs : List ℕ) → j < k → j < length xs → ListBelow (take k xs) (take k (raised j xs))
raised_covers j zero xs p q = absurd (omega arith)
raised_covers j (suc k) [] p q = absurd (omega arith)
raised_covers zero (suc k) (x ∷ xs) p q = inl (omega arith)
raised_covers (suc j) (suc k) (x ∷ xs) p q = inr (refl, raised_covers j k xs (omega arith) (omega arith))

-- zeros are at most every list
zeros_least : (xs ys : List ℕ) → length xs ≡ length ys → ListAtMost (cleared zero xs) ys
zeros_least [] ys e = tt
zeros_least (x ∷ xs) [] e = absurd (omega arith)
zeros_least (x ∷ xs) (zero ∷ ys) e = inr (refl, zeros_least xs ys (omega arith))
zeros_least (x ∷ xs) (suc y ∷ ys) e = inl (omega arith)

pub cleared_least : (k : ℕ) (xs ys : List ℕ) → length xs ≡ length ys → ListAtMost (take k xs) (take k ys) → ListAtMost (cleared k xs) ys
cleared_least k [] ys e h = tt
cleared_least k (x ∷ xs) [] e h = absurd (omega arith)
cleared_least zero (x ∷ xs) (y ∷ ys) e h = zeros_least (x ∷ xs) (y ∷ ys) e
cleared_least (suc k) (x ∷ xs) (y ∷ ys) e (inl l) = inl l
cleared_least (suc k) (x ∷ xs) (y ∷ ys) e (inr h) = inr (h.0, cleared_least k xs ys (omega arith) h.1)

-- above full components there is nothing
pub none_above : (k : ℕ) (bs : BoundList) (xs ys : List ℕ) → ListFits bs xs → ListFits bs ys
    → ((i : ℕ) → i < k → (get_or bs i (0, 0)).1 ≤ get_or xs i 0) → ListBelow (take k xs) (take k ys) → ⊥
none_above zero bs xs ys f g full h = h
none_above (suc k) [] [] [] f g full h = h
none_above (suc k) [] [] (y ∷ ys) f g full h = g
none_above (suc k) (b ∷ bs) [] ys f g full h = f
none_above (suc k) bs (x ∷ xs) [] f g full h = h
none_above (suc k) [] (x ∷ xs) (y ∷ ys) f g full h = f
none_above (suc k) (b ∷ bs) (x ∷ xs) (y ∷ ys) f g full (inl l) = let q = full zero (omega arith) in omega arith
none_above (suc k) (b ∷ bs) (x ∷ xs) (y ∷ ys) f g full (inr h) = none_above k bs xs ys f.1 g.1 (λ i l. full (suc i) (omega arith)) h.1

raised_step : (x y : ℕ) (xs ys : List ℕ) → (x + 1 < y) ⊎ (y ≤ x + 1) → x < y → length xs ≡ length ys → ListAtMost ((x + 1) ∷ cleared zero xs) (y ∷ ys)
raised_step x y xs ys (inl h) l e = inl h
raised_step x y xs ys (inr h) l e = inr (omega arith, zeros_least xs ys e)

pub raised_least : (j k : ℕ) (bs : BoundList) (xs ys : List ℕ) → ListFits bs xs → ListFits bs ys
    → ((i : ℕ) → j < i → i < k → (get_or bs i (0, 0)).1 ≤ get_or xs i 0) → ListBelow (take k xs) (take k ys) → ListAtMost (raised j xs) ys
raised_least j k bs [] ys f g full h = tt
raised_least j zero bs (x ∷ xs) ys f g full h = absurd h
raised_least j (suc k) bs (x ∷ xs) [] f g full h = absurd h
raised_least j (suc k) [] (x ∷ xs) (y ∷ ys) f g full h = absurd f
raised_least zero (suc k) (b ∷ bs) (x ∷ xs) (y ∷ ys) f g full (inl l) =
    let e : length xs ≡ length ys = same_length bs xs f.1 ∙ sym (same_length bs ys g.1) in
    raised_step x y xs ys (cases_lt (x + 1) y) l e
raised_least zero (suc k) (b ∷ bs) (x ∷ xs) (y ∷ ys) f g full (inr h) =
    absurd (none_above k bs xs ys f.1 g.1 (λ i l. full (suc i) (omega arith) (omega arith)) h.1)
raised_least (suc j) (suc k) (b ∷ bs) (x ∷ xs) (y ∷ ys) f g full (inl l) = inl l
raised_least (suc j) (suc k) (b ∷ bs) (x ∷ xs) (y ∷ ys) f g full (inr h) =
    inr (h.0, raised_least j k bs xs ys f.1 g.1 (λ i l m. full (suc i) (omega arith) (omega arith)) h.1)

pub zeros_fit : (bs : BoundList) → ListFits bs (replicate (length bs) 0)
zeros_fit [] = tt
zeros_fit (b ∷ bs) = (omega arith, zeros_fit bs)

zeros_at_most : (bs : BoundList) (ys : List ℕ) → ListFits bs ys → ListAtMost (replicate (length bs) 0) ys
zeros_at_most [] ys f = tt
zeros_at_most (b ∷ bs) [] f = absurd f
zeros_at_most (b ∷ bs) (zero ∷ ys) f = inr (refl, zeros_at_most bs ys f.1)
zeros_at_most (b ∷ bs) (suc y ∷ ys) f = inl (omega arith)

-- zero is at most every measure of the bounds
pub zero_least : (bs : BoundList) (m : MeasureValue) → Fits bs m → AtMost (zeros bs) m
zero_least bs None f = tt
zero_least bs (Some ys) f = zeros_at_most bs ys f

-- the list fits if each component is within its bound
pub fits_each : (bs : BoundList) (xs : List ℕ) → length xs ≡ length bs
    → ((k : ℕ) (d : ℕ × ℕ) → k < length xs → get_or xs k 0 ≤ (get_or bs k d).1) → ListFits bs xs
fits_each [] [] e h = tt
fits_each [] (x ∷ xs) e h = absurd (omega arith)
fits_each (b ∷ bs) [] e h = absurd (omega arith)
fits_each (b ∷ bs) (x ∷ xs) e h = (h 0 b (omega arith), fits_each bs xs (omega arith) (λ k d l. h (suc k) d (omega arith)))

-- and then each is
pub fit_each : (bs : BoundList) (xs : List ℕ) (k : ℕ) (d : ℕ × ℕ) → ListFits bs xs → k < length xs → get_or xs k 0 ≤ (get_or bs k d).1
fit_each [] [] k d f l = absurd (omega arith)
fit_each [] (x ∷ xs) k d f l = absurd f
fit_each (b ∷ bs) [] k d f l = absurd f
fit_each (b ∷ bs) (x ∷ xs) zero d f l = f.0
fit_each (b ∷ bs) (x ∷ xs) (suc k) d f l = fit_each bs xs k d f.1 (omega arith)
