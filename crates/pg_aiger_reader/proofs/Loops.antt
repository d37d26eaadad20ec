-- Reading one item after another, as loops do.
use Rattle.pg_aiger_reader.proofs.Common.{◌≡◌, ℕ, suc, ◌-◌, ◌+◌, ◌≤◌, ◌<◌, true, false, List, [], ◌∷◌, ◌++◌, Option, Some, None}
use Rattle.pg_aiger_reader.proofs.Common.{refl, sym, ap, ◌∙◌, append_assoc, arith, ◌>>=◌, Fails, ReaderFault, field_at, line_at}
use Rattle.pg_aiger_reader.proofs.Common.{some}
use Rattle.pg_aiger_reader.specs.declared.fault.ReaderFault.TheVariants as faults

-- what was read before, and what is still read
abbrev pub with_front : {A : Type 0} → List A → Option (List A × List ℕ) → Option (List A × List ℕ)
with_front front read = read >>= λ x. Some (front ++ x.0, x.1)

pub regroup : {A : Type 0} (front : List A) (x : A) (read : Option (List A × List ℕ))
    → with_front front (read >>= λ y. Some (x ∷ y.0, y.1)) ≡ with_front (front ++ x ∷ []) read
regroup front x None = refl
regroup {A = A} front x (Some y) = ap (λ (xs : List A). some (xs, y.1)) (sym (append_assoc front (x ∷ []) y.0))

-- a fault of a step is one of the whole
pub fails : {X Y : Type 0} (e : ReaderFault) (step : Option X) (total : Option Y) → Fails e step → (step ≡ None → total ≡ None) → Fails e total
fails faults.OutOfMemory step total h all = tt
fails (faults.Syntax n) step total h all = all h
fails (faults.NumberTooLarge n) step total h all = all h
fails faults.TooLarge step total h all = h
fails faults.TooFewVariables step total h all = h
fails faults.OtherVariables step total h all = h
fails (faults.LeftOut s) step total h all = h
fails (faults.Reset n) step total h all = h

-- ---- lines

pub line_goes_on : (front : List ℕ) (most i : ℕ) (bytes : List ℕ) (n : ℕ) (after : List ℕ) (total : Option (List ℕ × List ℕ)) → i < most
    → field_at bytes ≡ Some (n, false, after) → with_front front (line_at (most - i) bytes) ≡ total
    → with_front (front ++ n ∷ []) (line_at (most - (i + 1)) after) ≡ total
unfolding line_at
line_goes_on front most i bytes n after total lt h so_far =
    let k : most - i ≡ suc (most - (i + 1)) = omega arith in
    let one : with_front front (line_at (most - i) bytes) ≡ with_front (front ++ n ∷ []) (line_at (most - (i + 1)) after) =
    rw (k, h) (regroup front n (line_at (most - (i + 1)) after)) in
    sym one ∙ so_far

pub line_ends : (front : List ℕ) (most i : ℕ) (bytes : List ℕ) (n : ℕ) (after : List ℕ) (total : Option (List ℕ × List ℕ)) → i < most
    → field_at bytes ≡ Some (n, true, after) → with_front front (line_at (most - i) bytes) ≡ total → total ≡ Some (front ++ n ∷ [], after)
unfolding line_at
line_ends front most i bytes n after total lt h so_far =
    let k : most - i ≡ suc (most - (i + 1)) = omega arith in
    let one : with_front front (line_at (most - i) bytes) ≡ Some (front ++ n ∷ [], after) = rw (k, h) refl in
    sym so_far ∙ one

pub line_fails : (e : ReaderFault) (front : List ℕ) (most i : ℕ) (bytes : List ℕ) (total : Option (List ℕ × List ℕ)) → i < most
    → Fails e (field_at bytes) → with_front front (line_at (most - i) bytes) ≡ total → Fails e total
unfolding line_at
line_fails e front most i bytes total lt h so_far =
    fails e (field_at bytes) total h (λ no.
    let k : most - i ≡ suc (most - (i + 1)) = omega arith in
    let one : with_front front (line_at (most - i) bytes) ≡ None = rw (k, no) refl in
    sym so_far ∙ one)

pub line_too_long : (front : List ℕ) (most i : ℕ) (bytes : List ℕ) (total : Option (List ℕ × List ℕ)) → most ≤ i
    → with_front front (line_at (most - i) bytes) ≡ total → total ≡ None
unfolding line_at
line_too_long front most i bytes total le so_far =
    let k : most - i ≡ 0 = omega arith in
    let one : with_front front (line_at (most - i) bytes) ≡ None = rw k refl in
    sym so_far ∙ one
