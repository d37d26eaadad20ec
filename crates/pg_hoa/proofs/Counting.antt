-- The set of a step that counts.
use Rattle.pg_hoa.proofs.Common.{◌≡◌, ◌≢◌, ◌∙◌, ℕ, suc, zero, ◌<◌, ◌≤◌, min, max, List, [], ◌∷◌, ◌++◌, Option, Some, None, refl, sym, ap}
use Rattle.pg_hoa.proofs.Common.{append_assoc, arith, inl, inr, ◌⊎◌, nat_tests, Shape, MaxEven, MaxOdd, MinEven, MinOdd, Always, Never}
use Rattle.pg_hoa.proofs.Common.{first, last, deciding, put, rising, with_set, with_sets, append-nil, some, some_is, rising_pairs}
use Rattle.pg_hoa.proofs.Common.{rising_put, Rises, pairs_tail}

three_ways : (a b : ℕ) → (a < b) ⊎ ((a ≡ b) ⊎ (b < a))
three_ways zero zero = inr (inl refl)
three_ways zero (suc b) = inl (omega arith)
three_ways (suc a) zero = inr (inr (omega arith))
three_ways (suc a) (suc b) = elim (three_ways a b) [
  | inl h ↦ inl (omega arith)
  | inr k ↦ elim k
      [ inl e ↦ inr (inl (ap suc e)) | inr h ↦ inr (inr (omega arith)) ]
]

put_below : (n m : ℕ) (ms : List ℕ) → n < m → put n (m ∷ ms) ≡ n ∷ m ∷ ms
put_below n m ms h = grind (arith, nat_tests)

put_here : (n m : ℕ) (ms : List ℕ) → n ≡ m → put n (m ∷ ms) ≡ m ∷ ms
put_here n m ms h = grind (arith, nat_tests)

put_behind : (n m : ℕ) (ms : List ℕ) → m < n → put n (m ∷ ms) ≡ m ∷ put n ms
put_behind n m ms h = grind (arith, nat_tests)

first_put : (n m : ℕ) (ms : List ℕ) → first (put n (m ∷ ms)) ≡ Some (min m n)
first_put n m ms = grind (arith, nat_tests, three_ways n m)

last_some : (m : ℕ) (ms : List ℕ) → (k : ℕ) × (last (m ∷ ms) ≡ Some k)
last_some m [] = (m, refl)
last_some m (n ∷ ms) = last_some n ms

least_is_first : (m : ℕ) (ms : List ℕ) (k : ℕ) → Rises (m ∷ ms) → last (m ∷ ms) ≡ Some k → m ≤ k
least_is_first m [] k up e = let same = some_is m k e in omega arith
least_is_first m (n ∷ ms) k up e = let below : m < n = up 0 1 0 (omega arith) (omega arith) in let rest =
    least_is_first n ms k (pairs_tail (λ x y. x < y) m (n ∷ ms) up) e in omega arith

last_behind : (m n : ℕ) (xs : List ℕ) → last (m ∷ put n xs) ≡ last (put n xs)
last_behind m n [] = refl
last_behind m n (x ∷ xs) = grind (arith, nat_tests, three_ways n x)

last_put : (n m : ℕ) (ms : List ℕ) (k : ℕ) → Rises (m ∷ ms) → last (m ∷ ms) ≡ Some k → last (put n (m ∷ ms)) ≡ Some (max k n)
last_put n m [] k up e = grind (arith, nat_tests, some_is m k e, three_ways n m, put_below n m, put_here n m, put_behind n m)
last_put n m (x ∷ ms) k up e =
    let low = least_is_first m (x ∷ ms) k up e in
    elim (three_ways n m) [
      | inl h ↦ ap last (put_below n m (x ∷ ms) h) ∙ e ∙ ap some (omega arith)
      | inr j ↦ elim j [
        | inl is ↦ ap last (put_here n m (x ∷ ms) is) ∙ e ∙ ap some (omega arith)
        | inr h ↦ ap last (put_behind n m (x ∷ ms) h) ∙ last_behind m n (x ∷ ms)
            ∙ last_put n x ms k (pairs_tail (λ x y. x < y) m (x ∷ ms) up) e
      ]
    ]

abbrev greater : Option ℕ → ℕ → Option ℕ
greater None n = Some n
greater (Some k) n = Some (max k n)

last_more : (n : ℕ) (ys : List ℕ) → Rises ys → greater (last ys) n ≡ last (put n ys)
last_more n [] up = refl
last_more n (m ∷ ms) up = let k = last_some m ms in ap (λ o. greater o n) k.1 ∙ sym (last_put n m ms k.0 up k.1)

abbrev less : Option ℕ → ℕ → Option ℕ
less None n = Some n
less (Some k) n = Some (min k n)

first_more : (n : ℕ) (ys : List ℕ) → less (first ys) n ≡ first (put n ys)
first_more n [] = refl
first_more n (m ∷ ms) = sym (first_put n m ms)

with_greater : (shape : Shape) (o : Option ℕ) (n : ℕ) → (shape ≢ MinEven) → (shape ≢ MinOdd) → with_set shape o n ≡ greater o n
with_greater shape None n a b = refl
with_greater MinEven (Some k) n a b = absurd (a refl)
with_greater MinOdd (Some k) n a b = absurd (b refl)
with_greater _ (Some k) n a b = refl

with_less : (shape : Shape) (o : Option ℕ) (n : ℕ) → (shape ≡ MinEven) ⊎ (shape ≡ MinOdd) → with_set shape o n ≡ less o n
with_less shape None n is = refl
with_less shape (Some k) n (inl e) = ap (λ s. with_set s (some k) n) e
with_less shape (Some k) n (inr e) = ap (λ s. with_set s (some k) n) e

deciding_put : (shape : Shape) (n : ℕ) (ys : List ℕ) → Rises ys → with_set shape (deciding shape ys) n ≡ deciding shape (put n ys)
deciding_put MinEven n ys up = with_less MinEven (first ys) n (inl refl) ∙ first_more n ys
deciding_put MinOdd n ys up = with_less MinOdd (first ys) n (inr refl) ∙ first_more n ys
deciding_put MaxEven n ys up = with_greater MaxEven (last ys) n (λ e. absurd cc) (λ e. absurd cc) ∙ last_more n ys up
deciding_put MaxOdd n ys up = with_greater MaxOdd (last ys) n (λ e. absurd cc) (λ e. absurd cc) ∙ last_more n ys up
deciding_put Always n ys up = with_greater Always (last ys) n (λ e. absurd cc) (λ e. absurd cc) ∙ last_more n ys up
deciding_put Never n ys up = with_greater Never (last ys) n (λ e. absurd cc) (λ e. absurd cc) ∙ last_more n ys up

pub one_more_counts : (shape : Shape) (xs : List ℕ) (n : ℕ)
    → with_set shape (deciding shape (rising xs)) n ≡ deciding shape (rising (xs ++ (n ∷ [])))
one_more_counts shape xs n = deciding_put shape n (rising xs) (rising_pairs xs) ∙ ap (deciding shape) (rising_put xs n)

pub none_counts : (shape : Shape) → None ≡ deciding shape []
none_counts MaxEven = refl
none_counts _ = refl

pub all_count : (shape : Shape) (counts : Option ℕ) (own sets : List ℕ) → counts ≡ deciding shape (rising own)
    → with_sets shape counts sets ≡ deciding shape (rising (own ++ sets))
all_count shape counts own [] e = e ∙ ap (λ xs. deciding shape (rising xs)) (sym (append-nil own))
all_count shape counts own (n ∷ sets) e =
    all_count shape (with_set shape counts n) (own ++ (n ∷ [])) sets (ap (λ o. with_set shape o n) e ∙ one_more_counts shape own n)
    ∙ ap (λ xs. deciding shape (rising xs)) (append_assoc own (n ∷ []) sets)
