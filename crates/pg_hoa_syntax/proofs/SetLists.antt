-- Lists of sets, each once, the least first.
use Rattle.pg_hoa_syntax.proofs.Common.{◌≡◌, ◌∙◌, ℕ, zero, suc, ◌<◌, ◌≤◌, List, [], ◌∷◌, length, get_or, Result, Ok, Err, refl, sym, arith}
use Rattle.pg_hoa_syntax.proofs.Common.{MatchResult, nat_cmp, insert, IsStrictlyIncreasing, IsBinarySearchResult, nat_tests, searched}
use Rattle.pg_hoa_syntax.proofs.Common.{AllPairs-from_increasing, non_decreasing_from_sorted, sorted_from_strictly_increasing, put, rising, has}
use Rattle.pg_hoa_syntax.proofs.Common.{has_rising, contains_from, has_contained, rising_rises, Rises, pairs_tail, rising_same}

-- the same numbers make the same rising list
pub rising_alike : (xs ys : List ℕ) → ((q : ℕ) → has q xs ≡ has q ys) → rising xs ≡ rising ys
rising_alike xs ys same =
    let all = λ (q : ℕ). has_rising q xs ∙ same q ∙ sym (has_rising q ys) in
    rising_same (rising xs) (rising ys) (rising_rises xs) (rising_rises ys)
    (λ q c. contains_from q (rising ys) (sym (all q) ∙ has_contained q (rising xs) c))
    (λ q c. contains_from q (rising xs) (all q ∙ has_contained q (rising ys) c))

put_between : (xs : List ℕ) (n i : ℕ) → i ≤ length xs → ((k : ℕ) → k < i → get_or xs k 0 < n)
    → ((k : ℕ) → i ≤ k → k < length xs → n < get_or xs k 0) → insert xs i n ≡ put n xs
put_between [] n zero le below above = refl
put_between [] n (suc i) le below above = absurd (omega arith)
put_between (x ∷ xs) n zero le below above = let first : n < x = above 0 (omega arith) (omega arith) in grind (arith, nat_tests)
put_between (x ∷ xs) n (suc i) le below above =
    let first : x < n = below 0 (omega arith) in
    let rest =
    put_between xs n i (omega arith) (λ k lt. below (suc k) (omega arith)) (λ k ge lt. above (suc k) (omega arith) (omega arith)) in
    grind (arith, nat_tests)

put_there : (xs : List ℕ) (n i : ℕ) → Rises xs → i < length xs → get_or xs i 0 ≡ n → put n xs ≡ xs
put_there [] n i up lt is = absurd (omega arith)
put_there (x ∷ xs) n zero up lt is = grind (arith, nat_tests)
put_there (x ∷ xs) n (suc i) up lt is =
    let first : x < get_or xs i 0 = up 0 (suc i) 0 (omega arith) (omega arith) in
    let rest = put_there xs n i (pairs_tail (λ a b. a < b) x xs up) (omega arith) is in
    grind (arith, nat_tests)

module _ (xs : List ℕ) (n : ℕ) (up : IsStrictlyIncreasing xs) where
  found : (r : Result ℕ ℕ) → IsBinarySearchResult (λ y. nat_cmp y n) xs r
      → MatchResult r (λ i. (i < length xs) × (get_or xs i 0 ≡ n)) (λ i. (i ≤ length xs) × ((k : ℕ) → k < i → get_or xs k 0 < n) ×
      ((k : ℕ) → i ≤ k → k < length xs → n < get_or xs k 0))
  found r h = searched xs n r h (λ i j le lt. non_decreasing_from_sorted xs (sorted_from_strictly_increasing xs up) i j 0 le lt)

  pub put_found : (i : ℕ) → (let r : Result ℕ ℕ = Ok i in IsBinarySearchResult (λ y. nat_cmp y n) xs r) → xs ≡ put n xs
  put_found i h = let f = found (Ok i) h in sym (put_there xs n i (AllPairs-from_increasing xs up) f.0 f.1)

  pub put_missing : (i : ℕ) → (let r : Result ℕ ℕ = Err i in IsBinarySearchResult (λ y. nat_cmp y n) xs r) → insert xs i n ≡ put n xs
  put_missing i h = let f = found (Err i) h in put_between xs n i f.0 f.1 f.2
