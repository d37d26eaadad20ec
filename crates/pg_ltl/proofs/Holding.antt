-- What holds: it holds where it can't fail, and the dual where it doesn't.
use Rattle.std.proofs.Common.{◌≡◌, ℕ, ◌+◌, Bool, true, false, refl, sym, true≢false}
use Rattle.pg_ltl.specs.NormalForms.{NormalForm, top, bottom, literal, both, either, next, until, release, Holds, dual, opposite}

stable_bool : (a b : Bool) → ¬ ¬ (a ≡ b) → a ≡ b
stable_bool true true k = refl
stable_bool false false k = refl
stable_bool true false k = absurd (k (λ e. true≢false e))
stable_bool false true k = absurd (k (λ e. true≢false (sym e)))

other : (a b : Bool) → (a ≡ opposite b) → ¬ (a ≡ b)
other true true e h = true≢false e
other true false e h = true≢false h
other false true e h = true≢false (sym h)
other false false e h = true≢false (sym e)

not_same : (a b : Bool) → ¬ (a ≡ b) → a ≡ opposite b
not_same true true n = absurd (n refl)
not_same true false n = refl
not_same false true n = refl
not_same false false n = absurd (n refl)

module _ (word : ℕ → ℕ → Bool) where
  pub stable : (f : NormalForm) (t : ℕ) → ¬ ¬ Holds word f t → Holds word f t
  stable top t k = tt
  stable bottom t k = k (λ x. x)
  stable (literal p value) t k = stable_bool (word t p) value k
  stable (both f g) t k = (stable f t (λ n. k (λ h. n h.0)), stable g t (λ n. k (λ h. n h.1)))
  stable (either f g) t k = λ n. k (λ h. h n)
  stable (next f) t k = stable f (t + 1) k
  stable (until f g) t k = λ n. k (λ h. h n)
  stable (release f g) t k = λ s le lasts. stable g s (λ n. k (λ h. n (h s le lasts)))

  pub duality : (f : NormalForm) (t : ℕ) → (Holds word (dual f) t → ¬ Holds word f t) × (¬ Holds word f t → Holds word (dual f) t)
  duality top t = (λ h x. h, λ n. n tt)
  duality bottom t = (λ h x. x, λ n. tt)
  duality (literal p value) t = (other (word t p) value, not_same (word t p) value)
  duality (both f g) t = (
    λ h x. h (λ d. (duality f t).0 d x.0, λ d. (duality g t).0 d x.1),
    λ n x. x.0 ((duality f t).1 (λ a. x.1 ((duality g t).1 (λ b. n (a, b))))),
  )
  duality (either f g) t = (
    λ h x. x ((duality f t).0 h.0, (duality g t).0 h.1),
    λ n. ((duality f t).1 (λ a. n (λ x. x.0 a)), (duality g t).1 (λ b. n (λ x. x.1 b))),
  )
  duality (next f) t = duality f (t + 1)
  duality (until f g) t = (
    λ h x. x (λ s le lasts b. (duality g s).0 (h s le (λ r from lt d. (duality f r).0 d (lasts r from lt))) b),
    λ n s le lasts. (duality g s).1 (λ b. n (λ none. none s le (λ r from lt. stable f r (λ m. lasts r from lt ((duality f r).1 m))) b)),
  )
  duality (release f g) t = (
    λ h x. h (λ s le lasts d. (duality g s).0 d (x s le (λ r from lt. (duality f r).0 (lasts r from lt)))),
    λ n none. n (λ s le lasts. stable g s (λ m. none s le (λ r from lt. (duality f r).1 (lasts r from lt)) ((duality g s).1 m))),
  )
