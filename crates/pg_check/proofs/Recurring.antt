-- A play over finitely many priorities has one greatest recurring priority.
use Rattle.pg_check.proofs.Common.{◌≡◌, ◌≢◌, ℕ, zero, suc, ◌+◌, ◌%◌, ◌<◌, ◌≤◌, ◌⊎◌, inl, inr, arith, Even, Odd, HasParityOf, IsAbsentFrom}
use Rattle.pg_check.proofs.Common.{IsGreatestRecurring, HasOneLoser}

-- excluded middle holds under a double negation
pub not_not_decided : (A : Type 0) → ¬ ¬ (A ⊎ ¬ A)
not_not_decided A k = k (inr (λ a. k (inl a)))

pub not_without : (met : ℕ → ℕ) (bound t : ℕ) → ((s : ℕ) → t ≤ s → met s < bound)
    → ¬ ¬ ((p : ℕ) × IsGreatestRecurring met p)
not_without met zero t below none = let h : met t < 0 = below t (omega arith) in omega arith
not_without met (suc b) t below none =
    not_not_decided ((u : ℕ) × IsAbsentFrom met b u)
    (elim [
      | inl a ↦ not_without met b (t + a.0)
          (λ s le. let ne : met s ≢ b = a.1 s (omega arith) in
          let lt : met s < suc b = below s (omega arith) in omega arith)
          none
      | inr recurs ↦ none (
        b,
        record {
          recurs = recurs;
          bounds = (t, λ s le. let lt : met s < suc b = below s le in omega arith);
        },
      )
    ])

-- no play has two
pub not_smaller : (met : ℕ → ℕ) (p q : ℕ) → IsGreatestRecurring met p → IsGreatestRecurring met q → ¬ (p < q)
not_smaller met p q gp gq lt =
    gq.recurs (gp.bounds.0, λ s le e. let h : met s ≤ p = gp.bounds.1 s le in omega arith)

pub same_recurring : (met : ℕ → ℕ) (p q : ℕ) → IsGreatestRecurring met p → IsGreatestRecurring met q → p ≡ q
same_recurring met p q gp gq =
    let a : ¬ (p < q) = not_smaller met p q gp gq in
    let b : ¬ (q < p) = not_smaller met q p gq gp in
    omega arith

pub parity_of : (p : ℕ) → HasParityOf Even p ⊎ HasParityOf Odd p
parity_of p = grind arith

pub one_loser : (met : ℕ → ℕ) (bound : ℕ) → ((s : ℕ) → met s < bound) → HasOneLoser met
one_loser met bound below =
    let exists : ¬ ¬ ((p : ℕ) × IsGreatestRecurring met p) = not_without met bound 0 (λ s le. below s) in
    record {
      at_most_one = same_recurring met;
      not_none = exists;
      not_both = λ (e, o). let h : e.0 ≡ o.0 = same_recurring met e.0 o.0 e.1 o.1 in
          let he : e.0 % 2 ≡ 1 = e.2 in let ho : o.0 % 2 ≡ 0 = o.2 in omega arith;
      not_neither = λ (e, o). exists (λ h.
          elim (parity_of h.0) [ inl even ↦ o (h.0, h.1, even) | inr odd ↦ e (h.0, h.1, odd) ]);
    }
