-- Items one after another, as a loop reads them.
use Rattle.pg_text.proofs.Common.{◌≡◌, ℕ, zero, suc, ◌<◌, List, [], ◌∷◌, ◌++◌, length, Ok, Err, refl, sym, ap, ◌∙◌, append_assoc, arith}
use Rattle.pg_text.proofs.Common.{TokenFault, append-nil, Refusal, Memory, Token, ◌>>=◌, Read, Fails, Step, item, stop, after_step}
use Rattle.pg_text.proofs.Common.{items_within, items_at}

-- each item takes a byte at least
pub record Shrinks {A E : Type 0} (step : List ℕ → Read (Step A E × List ℕ)) : Type 0 where
  pub shorter : (bytes : List ℕ) (x : A) (rest : List ℕ) → step bytes ≡ Ok (item x, rest) → length rest < length bytes

-- how many steps may be made doesn't matter where they are enough
enough : {A E : Type 0} (step : List ℕ → Read (Step A E × List ℕ)) → Shrinks step → (n m : ℕ) (bytes : List ℕ) → length bytes < n
    → length bytes < m → items_within step n bytes ≡ items_within step m bytes
unfolding items_within
enough step shrinks zero m bytes p q = absurd (omega arith)
enough step shrinks (suc n) zero bytes p q = absurd (omega arith)
enough {A} {E} step shrinks (suc n) (suc m) bytes p q =
    let go : (o : Read (Step A E × List ℕ)) → step bytes ≡ o → (o >>= after_step (items_within step n)) ≡ (o >>= after_step (items_within step m))
    = λ o. elim o as (λ o. step bytes ≡ o → (o >>= after_step (items_within step n)) ≡ (o >>= after_step (items_within step m))) [
      | Err f ↦ λ e. refl
      | Ok x ↦ elim (x.0) as (λ i. step bytes ≡ Ok (i, x.1) → after_step (items_within step n) (i, x.1) ≡ after_step (items_within step m) (i, x.1)) [
        | stop e ↦ λ h. refl
        | item y ↦ λ h.
            let lt : length (x.1) < length bytes = shrinks.shorter bytes y (x.1) h in
            ap (λ (r : Read (List A × E × List ℕ)). r >>= λ others. Ok (y ∷ others.0, others.1, others.2))
            (enough step shrinks n m (x.1) (omega arith) (omega arith))
      ]
    ] in
    go (step bytes) refl

pub items_err : {A E : Type 0} (step : List ℕ → Read (Step A E × List ℕ)) (bytes : List ℕ) (fault : TokenFault) → step bytes ≡ Err fault
    → items_at step bytes ≡ Err fault
unfolding items_at items_within
items_err step bytes fault e = rw e refl

pub items_end : {A E : Type 0} (step : List ℕ → Read (Step A E × List ℕ)) (bytes : List ℕ) (x : E) (rest : List ℕ)
    → step bytes ≡ Ok (stop x, rest) → items_at step bytes ≡ Ok ([], x, rest)
unfolding items_at items_within
items_end step bytes x rest e = rw e refl

pub items_more : {A E : Type 0} (step : List ℕ → Read (Step A E × List ℕ)) → Shrinks step → (bytes : List ℕ) (x : A) (rest : List ℕ)
    → step bytes ≡ Ok (item x, rest) → items_at step bytes ≡ (items_at step rest >>= λ others. Ok (x ∷ others.0, others.1, others.2))
unfolding items_at items_within
items_more {A} {E} step shrinks bytes x rest e =
    let lt : length rest < length bytes = shrinks.shorter bytes x rest e in
    rw e (ap (λ (r : Read (List A × E × List ℕ)). r >>= λ others. Ok (x ∷ others.0, others.1, others.2))
    (enough step shrinks (length bytes) (suc (length rest)) rest (omega arith) (omega arith)))

-- what was read before, and what is still read
abbrev pub with_front : {A E : Type 0} → List A → Read (List A × E × List ℕ) → Read (List A × E × List ℕ)
with_front front read = read >>= λ x. Ok (front ++ x.0, x.1, x.2)

pub nothing_yet : {A E : Type 0} (read : Read (List A × E × List ℕ)) → with_front [] read ≡ read
nothing_yet (Ok x) = refl
nothing_yet (Err f) = refl

regroup : {A E : Type 0} (front : List A) (y : A) (read : Read (List A × E × List ℕ))
    → with_front front (read >>= λ x. Ok (y ∷ x.0, x.1, x.2)) ≡ with_front (front ++ y ∷ []) read
regroup front y (Ok x) = ap (λ items. Ok (items, x.1, x.2)) (simp append_assoc)
regroup front y (Err f) = refl

pub goes_on : {A E : Type 0} (step : List ℕ → Read (Step A E × List ℕ)) → Shrinks step
    → (front : List A) (bytes : List ℕ) (x : A) (rest : List ℕ) (total : Read (List A × E × List ℕ)) → step bytes ≡ Ok (item x, rest)
    → with_front front (items_at step bytes) ≡ total → with_front (front ++ x ∷ []) (items_at step rest) ≡ total
goes_on step shrinks front bytes x rest total e so_far =
    sym (regroup front x (items_at step rest)) ∙ ap (with_front front) (sym (items_more step shrinks bytes x rest e)) ∙ so_far

pub ends : {A E : Type 0} (step : List ℕ → Read (Step A E × List ℕ)) (front : List A) (bytes : List ℕ) (x : E) (rest : List ℕ)
    (total : Read (List A × E × List ℕ))
    → step bytes ≡ Ok (stop x, rest)
    → with_front front (items_at step bytes) ≡ total → total ≡ Ok (front, x, rest)
ends step front bytes x rest total e so_far =
    sym so_far ∙ ap (with_front front) (items_end step bytes x rest e) ∙ ap (λ items. Ok (items, x, rest)) (append-nil front)

pub fails : {A E : Type 0} (step : List ℕ → Read (Step A E × List ℕ)) (refusal : Refusal) (front : List A) (bytes : List ℕ) (total : Read (List A × E × List ℕ))
    → Fails refusal (step bytes)
    → with_front front (items_at step bytes) ≡ total → Fails refusal total
fails step Memory front bytes total h so_far = tt
fails step (Token fault) front bytes total h so_far = sym so_far ∙ ap (with_front front) (items_err step bytes fault h)
