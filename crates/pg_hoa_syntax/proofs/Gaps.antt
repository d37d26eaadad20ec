-- White space and comments, as a loop skips them.
use Rattle.pg_hoa_syntax.proofs.Common.{◌≡◌, ℕ, zero, suc, ◌≤◌, ◌<◌, List, [], ◌∷◌, length, Option, Some, None, refl, arith, eqb, nat_tests}
use Rattle.pg_hoa_syntax.proofs.Common.{◌>>=◌, Fails, gap_step, behind_blank, gap_within, gap_from, PartRefusal, Memory, Wrong, chosen, some, none}

-- a byte at least is taken, and no more comments are open than may be
pub record Takes (deep : ℕ) (bytes : List ℕ) (x : ℕ × List ℕ) : Type 0 where
  pub shorter : length x.1 < length bytes
  pub few : deep ≤ 8192 → x.0 ≤ 8192

pub gap_takes : (deep : ℕ) (bytes : List ℕ) (x : ℕ × List ℕ) → gap_step deep bytes ≡ Some (Some x) → Takes deep bytes x
unfolding gap_step
gap_takes deep [] x e = grind (arith, nat_tests, chosen (eqb deep 0) (some none) none (some (some x)) e)
gap_takes deep (b ∷ []) x e = grind (arith, nat_tests)
gap_takes deep (b ∷ c ∷ bytes) x e = grind (arith, nat_tests)

-- how many steps may be made doesn't matter where they are enough
enough : (n m deep : ℕ) (bytes : List ℕ) → length bytes < n → length bytes < m → gap_within n deep bytes ≡ gap_within m deep bytes
unfolding gap_within
enough zero m deep bytes p q = absurd (omega arith)
enough (suc n) zero deep bytes p q = absurd (omega arith)
enough (suc n) (suc m) deep bytes p q =
    let go : (o : Option (Option (ℕ × List ℕ))) → gap_step deep bytes ≡ o
    → (o >>= behind_blank (gap_within n) bytes) ≡ (o >>= behind_blank (gap_within m) bytes)
    = λ o. elim o as (λ o. gap_step deep bytes ≡ o → (o >>= behind_blank (gap_within n) bytes) ≡ (o >>= behind_blank (gap_within m) bytes)) [
      | None ↦ λ e. refl
      | Some i ↦ elim i as (λ i. gap_step deep bytes ≡ Some i → behind_blank (gap_within n) bytes i ≡ behind_blank (gap_within m) bytes i) [
        | None ↦ λ e. refl
        | Some x ↦ λ e.
            let lt : length x.1 < length bytes = (gap_takes deep bytes x e).shorter in
            enough n m x.0 x.1 (omega arith) (omega arith)
      ]
    ] in
    go (gap_step deep bytes) refl

pub gap_next : (deep : ℕ) (bytes : List ℕ) (x : ℕ × List ℕ) → gap_step deep bytes ≡ Some (Some x) → gap_from deep bytes ≡ gap_from x.0 x.1
unfolding gap_from gap_within
gap_next deep bytes x e =
    let lt : length x.1 < length bytes = (gap_takes deep bytes x e).shorter in
    rw e (enough (length bytes) (suc (length x.1)) x.0 x.1 (omega arith) (omega arith))

pub gap_ends : (deep : ℕ) (bytes : List ℕ) → gap_step deep bytes ≡ Some None → gap_from deep bytes ≡ Some bytes
unfolding gap_from gap_within
gap_ends deep bytes e = rw e refl

pub gap_none : (deep : ℕ) (bytes : List ℕ) → gap_step deep bytes ≡ None → gap_from deep bytes ≡ None
unfolding gap_from gap_within
gap_none deep bytes e = rw e refl

pub gap_fails : (refusal : PartRefusal) (deep : ℕ) (bytes : List ℕ) → Fails refusal (gap_step deep bytes) → Fails refusal (gap_from deep bytes)
gap_fails Memory deep bytes h = tt
gap_fails (Wrong fault) deep bytes h = gap_none deep bytes h
