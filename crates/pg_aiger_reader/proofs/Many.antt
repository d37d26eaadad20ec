-- Items one after another: what is read is spelt, what is spelt is read, and how a loop reads them.
use Rattle.pg_aiger_reader.proofs.Common.{◌≡◌, ℕ, suc, zero, ◌-◌, ◌+◌, ◌≤◌, ◌<◌, List, [], ◌∷◌, ◌++◌, length, Option, Some, None}
use Rattle.pg_aiger_reader.proofs.Common.{refl, sym, ap, subst, ◌∙◌, append-nil, arith, ◌>>=◌, Fails, ReaderFault, some, some_is}
use Rattle.pg_aiger_reader.proofs.Common.{none_is_some, many_at}
use Rattle.pg_aiger_reader.proofs.Loops.{with_front, regroup, fails}
use Rattle.pg_aiger_reader.specs.Texts.{AreItems}

-- ---- what is read is spelt, and what is spelt is read

pub many_found : {A : Type 0} (IsItem : ℕ → List ℕ → A → List ℕ → Type 0) (item : ℕ → List ℕ → Option (A × List ℕ))
    → ((v : ℕ) (bytes : List ℕ) (x : A × List ℕ) → item v bytes ≡ Some x → IsItem v bytes x.0 x.1)
    → (n v : ℕ) (bytes : List ℕ) (x : List A × List ℕ) → many_at item n v bytes ≡ Some x → (length x.0 ≡ n) × AreItems IsItem v bytes x.0 x.1
unfolding many_at
many_found {A = A} IsItem item found zero v bytes x e =
    subst (λ (y : List A × List ℕ). (length y.0 ≡ 0) × AreItems IsItem v bytes y.0 y.1) (some_is ([], bytes) x e) (refl, refl)
many_found {A = A} IsItem item found (suc n) v bytes x e =
    of_item (λ after xs same. many_found IsItem item found n (suc v) after xs same) (item v bytes) refl e
  where
    of_rest : ((after : List ℕ) (xs : List A × List ℕ) → many_at item n (suc v) after ≡ Some xs
        → (length xs.0 ≡ n) × AreItems IsItem (suc v) after xs.0 xs.1)
        → (y : A × List ℕ) → item v bytes ≡ Some y → (read : Option (List A × List ℕ)) → many_at item n (suc v) y.1 ≡ read
        → (read >>= λ xs. Some (y.0 ∷ xs.0, xs.1)) ≡ Some x → (length x.0 ≡ suc n) × AreItems IsItem v bytes x.0 x.1
    of_rest again y is None same e = absurd (none_is_some x e)
    of_rest again y is (Some xs) same e =
        let below = again y.1 xs same in
        subst (λ (z : List A × List ℕ). (length z.0 ≡ suc n) × AreItems IsItem v bytes z.0 z.1) (some_is (y.0 ∷ xs.0, xs.1) x e)
        (ap suc below.0, (y.1, found v bytes y is, below.1))

    of_item : ((after : List ℕ) (xs : List A × List ℕ) → many_at item n (suc v) after ≡ Some xs
        → (length xs.0 ≡ n) × AreItems IsItem (suc v) after xs.0 xs.1)
        → (read : Option (A × List ℕ)) → item v bytes ≡ read
        → (read >>= λ y. many_at item n (suc v) y.1 >>= λ xs. Some (y.0 ∷ xs.0, xs.1)) ≡ Some x
        → (length x.0 ≡ suc n) × AreItems IsItem v bytes x.0 x.1
    of_item again None same e = absurd (none_is_some x e)
    of_item again (Some y) same e = of_rest again y same (many_at item n (suc v) y.1) refl e

pub many_only : {A : Type 0} (IsItem : ℕ → List ℕ → A → List ℕ → Type 0) (item : ℕ → List ℕ → Option (A × List ℕ))
    → ((v : ℕ) (bytes : List ℕ) (x : A) (rest : List ℕ) → IsItem v bytes x rest → item v bytes ≡ Some (x, rest))
    → (xs : List A) (v : ℕ) (bytes rest : List ℕ) → AreItems IsItem v bytes xs rest → many_at item (length xs) v bytes ≡ Some (xs, rest)
unfolding many_at
many_only IsItem item only [] v bytes rest are = ap (λ (t : List ℕ). some ([], t)) are
many_only IsItem item only (x ∷ xs) v bytes rest (middle, is, are) =
    rw (only v bytes x middle is, many_only IsItem item only xs (suc v) middle rest are) refl

-- ---- a loop

pub many_goes_on : {A : Type 0} (item : ℕ → List ℕ → Option (A × List ℕ)) (front : List A) (count i v : ℕ) (bytes : List ℕ) (x : A)
    (after : List ℕ) (total : Option (List A × List ℕ)) → i < count → item (v + i) bytes ≡ Some (x, after)
    → with_front front (many_at item (count - i) (v + i) bytes) ≡ total
    → with_front (front ++ x ∷ []) (many_at item (count - (i + 1)) (v + (i + 1)) after) ≡ total
unfolding many_at
many_goes_on item front count i v bytes x after total lt h so_far =
    let k : count - i ≡ suc (count - (i + 1)) = omega arith in
    let next : v + (i + 1) ≡ suc (v + i) = omega arith in
    let one : with_front front (many_at item (count - i) (v + i) bytes)
    ≡ with_front (front ++ x ∷ []) (many_at item (count - (i + 1)) (v + (i + 1)) after) =
    rw (k, next, h) (regroup front x (many_at item (count - (i + 1)) (suc (v + i)) after)) in
    sym one ∙ so_far

pub many_fails : {A : Type 0} (item : ℕ → List ℕ → Option (A × List ℕ)) (e : ReaderFault) (front : List A) (count i v : ℕ) (bytes : List ℕ)
    (total : Option (List A × List ℕ)) → i < count → Fails e (item (v + i) bytes)
    → with_front front (many_at item (count - i) (v + i) bytes) ≡ total → Fails e total
unfolding many_at
many_fails item e front count i v bytes total lt h so_far =
    fails e (item (v + i) bytes) total h (λ no.
    let k : count - i ≡ suc (count - (i + 1)) = omega arith in
    let one : with_front front (many_at item (count - i) (v + i) bytes) ≡ None = rw (k, no) refl in
    sym so_far ∙ one)

pub many_done : {A : Type 0} (item : ℕ → List ℕ → Option (A × List ℕ)) (front : List A) (count i v : ℕ) (bytes : List ℕ)
    (total : Option (List A × List ℕ)) → count ≤ i → with_front front (many_at item (count - i) (v + i) bytes) ≡ total
    → total ≡ Some (front, bytes)
unfolding many_at
many_done item front count i v bytes total le so_far =
    let k : count - i ≡ 0 = omega arith in
    let one : with_front front (many_at item (count - i) (v + i) bytes) ≡ Some (front, bytes) =
    rw k (ap (λ xs. some (xs, bytes)) (append-nil front)) in
    sym so_far ∙ one
