-- Which odd priorities have a bound.
use Rattle.pg_worker.proofs.Common.{◌≡◌, ℕ, ◌+◌, ◌<◌, ◌≤◌, length, get_or, subst, arith, ◌⊎◌, inl, inr, AllPairs, cases_lt, BoundList}
use Rattle.pg_worker.proofs.Common.{width_from, width_is}

before : (bs : BoundList) (p i k : ℕ) (d : ℕ × ℕ) → AllPairs (λ b c. c.0 < b.0) bs → i < length bs → ((d : ℕ × ℕ) → (get_or bs i d).0 ≡ p)
    → k < i + 1 → (k < i) ⊎ (i ≤ k) → p ≤ (get_or bs k d).0
before bs p i k d f l e m (inl lt) = let a = f k i d lt l in let b = e d in omega arith
before bs p i k d f l e m (inr ge) =
    let same : i ≡ k = omega arith in
    let b : (get_or bs k d).0 ≡ p = subst (λ (j : ℕ). (get_or bs j d).0 ≡ p) same (e d) in
    omega arith

-- the bound of p is the last of those of priorities at least p
pub last_from : (bs : BoundList) (p i : ℕ) → AllPairs (λ b c. c.0 < b.0) bs → i < length bs → ((d : ℕ × ℕ) → (get_or bs i d).0 ≡ p) → i + 1 ≡ width_from bs p
last_from bs p i f l e =
    width_is bs p (i + 1) (omega arith) (λ k d m. before bs p i k d f l e m (cases_lt k i))
    (λ k d m n. let a = f i k d (omega arith) n in let b = e d in omega arith)
