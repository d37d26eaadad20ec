-- A loop that reads items.
use Rattle.pg_wire.proofs.Common.{◌≡◌, ℕ, suc, ◌+◌, ◌-◌, ◌<◌, ◌≤◌, List, [], ◌∷◌, ◌++◌, Result, Ok, Err, refl, sym, ap, ◌∙◌, append_assoc}
use Rattle.pg_wire.proofs.Common.{arith, append-nil}
use Rattle.pg_wire.proofs.Common.{FieldFault, ReadFault, ◌>>=◌, Fails, items_at, Kind, so_many}
use Rattle.pg_wire.specs.declared.fault.ReadFault.TheVariants as faults

abbrev pub with_front : {A : Type 0} → List A → Result (List A × List ℕ) FieldFault → Result (List A × List ℕ) FieldFault
with_front front read = read >>= λ x. Ok (front ++ x.0, x.1)

regroup : {A : Type 0} (front : List A) (n : A) (read : Result (List A × List ℕ) FieldFault)
    → with_front front (read >>= λ x. Ok (n ∷ x.0, x.1)) ≡ with_front (front ++ n ∷ []) read
regroup {A} front n (Ok x) = ap (λ (ns : List A). Ok (ns, x.1)) (simp append_assoc)
regroup front n (Err f) = refl

pub goes_on : {A : Type 0} (k : Kind A) (front : List A) (count i at : ℕ) (bytes : List ℕ) (x : A) (after : List ℕ)
    (total : Result (List A × List ℕ) FieldFault)
    → i < count → k.read at bytes ≡ Ok (x, after)
    → with_front front ((so_many k (count - i) at).read bytes) ≡ total
    → with_front (front ++ x ∷ []) ((so_many k (count - (i + 1)) (k.next x)).read after) ≡ total
unfolding items_at
goes_on k front count i at bytes x after total lt h so_far =
    let n : count - i ≡ suc (count - (i + 1)) = omega arith in
    let one : with_front front ((so_many k (count - i) at).read bytes) ≡ with_front (front ++ x ∷ []) ((so_many k (count - (i + 1)) (k.next x)).read after) =
    rw (n, h) (regroup front x ((so_many k (count - (i + 1)) (k.next x)).read after)) in
    sym one ∙ so_far

pub ends : {A : Type 0} (k : Kind A) (e : ReadFault) (front : List A) (count i at : ℕ) (bytes : List ℕ) (total : Result (List A × List ℕ) FieldFault)
    → i < count → Fails e (k.read at bytes) → with_front front ((so_many k (count - i) at).read bytes) ≡ total → Fails e total
unfolding items_at
ends k faults.Memory front count i at bytes total lt h so_far = tt
ends k (faults.Field f) front count i at bytes total lt h so_far =
    let n : count - i ≡ suc (count - (i + 1)) = omega arith in
    let one : with_front front ((so_many k (count - i) at).read bytes) ≡ Err f = rw (n, h) refl in
    sym so_far ∙ one

pub is_done : {A : Type 0} (k : Kind A) (front : List A) (count i at : ℕ) (bytes : List ℕ) (total : Result (List A × List ℕ) FieldFault)
    → count ≤ i → with_front front ((so_many k (count - i) at).read bytes) ≡ total → total ≡ Ok (front, bytes)
unfolding items_at
is_done {A} k front count i at bytes total le so_far =
    let n : count - i ≡ 0 = omega arith in
    let one : with_front front ((so_many k (count - i) at).read bytes) ≡ Ok (front, bytes) = rw n (ap (λ (xs : List A). Ok (xs, bytes)) (append-nil front)) in
    sym so_far ∙ one

pub starts : {A : Type 0} (read : Result (List A × List ℕ) FieldFault) → with_front [] read ≡ read
starts (Ok x) = refl
starts (Err f) = refl
