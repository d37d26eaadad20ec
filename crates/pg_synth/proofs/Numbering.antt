-- The numbers of states.
use Rattle.pg_synth.proofs.Common.{◌≡◌, ℕ, suc, ◌<◌, ◌≤◌, inl, inr, Bool, true, false, eqb, List, [], ◌∷◌, ◌++◌, length, slice_get, Some}
use Rattle.pg_synth.proofs.Common.{length-append, arith, refl, sym, subst, ap, ◌∙◌, IsDistinct, list_any, Contains, cases_lt, eqb-true}
use Rattle.pg_synth.proofs.Common.{eq-eqb, get_or_append_left, get_or_push, get_or_default, apart_from_distinct}
use Rattle.pg_synth.proofs.Common.{length-le_from_distinct_below, get_or_from_slice_get, insert_key, Contains-list_any, IsNumbered}
use Rattle.pg_synth.proofs.Common.{state_of}

-- states with two numbers are two
pub apart : (states : List ℕ) → IsDistinct eqb states → (j k : ℕ) → j < length states → k < length states
    → state_of states j ≡ state_of states k → j ≡ k
apart states distinct j k lj lk e = elim (cases_lt j k) [
  | inl less ↦ absurd (differ j k less lk e)
  | inr le ↦ elim (cases_lt k j) [
    | inl less ↦ absurd (differ k j less lj (sym e))
    | inr le' ↦ omega arith
  ]
]
  where
    differ : (j k : ℕ) → j < k → k < length states → ¬ (state_of states j ≡ state_of states k)
    differ j k less lk e =
        let yes = eq-eqb (state_of states j) (state_of states k) e in
        let no = apart_from_distinct eqb states j k 0 distinct less lk in
        let wrong : true ≡ false = sym yes ∙ no in cc wrong

-- what inserting a state makes of the states
pub inserted : (states after : List ℕ) (q number : ℕ) → IsDistinct eqb after → after ≡ insert_key eqb states q → number < length after
    → ((k : ℕ) × (slice_get after number ≡ Some k) × (eqb q k ≡ true)) → IsNumbered states q number after
inserted states after q number distinct keys number_in stored = go (list_any (eqb q) states) refl
  where
    there : state_of after number ≡ q
    there = get_or_from_slice_get after number stored.0 0 stored.1 ∙ sym (eqb-true q stored.0 stored.2)

    go : (b : Bool) → list_any (eqb q) states ≡ b → IsNumbered states q number after
    go true e =
        let same : after ≡ states = keys ∙ rw e refl in
        record {
          kept = λ k lt. ap (λ (xs : List ℕ). state_of xs k) same;
          number_in = number_in;
          there = there;
          distinct = apart after distinct;
          grows = inl (ap length same);
        }
    go false e =
        let more : after ≡ states ++ q ∷ [] = keys ∙ rw e refl in
        let long : length after ≡ suc (length states) = (let n = ap length more in let m = length-append states (q ∷ []) in omega arith) in
        let last : state_of after (length states) ≡ q = ap (λ (xs : List ℕ). state_of xs (length states)) more ∙ get_or_push states q 0 (length states) refl in
        record {
          kept = λ k lt. ap (λ (xs : List ℕ). state_of xs k) more ∙ get_or_append_left states (q ∷ []) 0 k lt;
          number_in = number_in;
          there = there;
          distinct = apart after distinct;
          grows = inr (long, apart after distinct number (length states) number_in (omega arith) (there ∙ sym last));
        }

-- there are no more numbers than states
pub few_numbers : (states : List ℕ) (n : ℕ) → IsDistinct eqb states → ((k : ℕ) → k < length states → state_of states k < n) → length states ≤ n
few_numbers states n distinct below = length-le_from_distinct_below states n distinct (λ q h.
    let c : Contains states q = Contains-list_any eqb (λ x y e. eqb-true x y e) states q h in
    let at : state_of states c.0 ≡ q = get_or_default states c.0 0 q c.1 ∙ c.2 in
    subst (λ (x : ℕ). x < n) at (below c.0 c.1))

pub all_below : (states after : List ℕ) (q number n : ℕ) → IsNumbered states q number after → ((k : ℕ) → k < length states → state_of states k < n) → q < n
    → (k : ℕ) → k < length after → state_of after k < n
all_below states after q number n numbered below q_in k lt = elim (cases_lt k (length states)) [
  | inl l ↦ (let e = numbered.kept k l in omega (arith, below k l, e))
  | inr le ↦ elim numbered.grows [
    | inl same ↦ absurd (omega arith)
    | inr more ↦
        let e = numbered.there in
        let m = more.0 in
        let is = more.1 in
        let at : k ≡ number = omega arith in
        let f = ap (state_of after) at in omega (arith, e, f)
  ]
]
