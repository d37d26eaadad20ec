-- Of finitely many facts a test that holds of just the true ones exists, doubly negated.
use Rattle.std.proofs.Common.{◌↔◌, ℕ, zero, suc, ◌<◌, Bool, true, false, cond, eqb, inl, inr, ◌⊎◌, refl, arith}
use Rattle.std.specs.Prelude.{IsTrue}
use Rattle.std.proofs.lemmas.Bool.Decides.{eqb_tells, nat_tests}

not_not_decided : (A : Type 0) → ¬ ¬ (A ⊎ ¬ A)
not_not_decided A k = k (inr (λ a. k (inl a)))

abbrev Collects : (ℕ → Type 0) → ℕ → (ℕ → Bool) → Type 0
Collects P n on = (s : ℕ) → s < n → IsTrue (on s) ↔ P s

-- with the fact of one number more
one_more : (P : ℕ → Type 0) (n : ℕ) (on : ℕ → Bool) (b : Bool) → Collects P n on → (IsTrue b ↔ P n) → Collects P (suc n) (λ s. cond (eqb s n) b (on s))
one_more P n on b below here s lt = grind (arith, nat_tests, eqb_tells s n)

pub not_not_collected : (P : ℕ → Type 0) (n : ℕ) → ¬ ¬ ((on : ℕ → Bool) × Collects P n on)
not_not_collected P zero none = none ((λ _. false), λ s lt. absurd (omega arith))
not_not_collected P (suc n) none =
    not_not_collected P n (λ found. not_not_decided (P n) (λ decided. none (elim decided [
      | inl p ↦ ((λ s. cond (eqb s n) true (found.0 s)), one_more P n found.0 true found.1 ((λ _. p), (λ _. refl)))
      | inr q ↦ ((λ s. cond (eqb s n) false (found.0 s)), one_more P n found.0 false found.1 ((λ e. absurd cc), (λ p. absurd (q p))))
    ])))
