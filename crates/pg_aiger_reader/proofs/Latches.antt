-- Latches of their lines, one after another.
use Rattle.pg_aiger_reader.proofs.Common.{◌≡◌, ℕ, zero, suc, ◌+◌, ◌≤◌, ◌<◌, eqb, List, [], ◌∷◌, ◌++◌, length, map, Option, Some, None}
use Rattle.pg_aiger_reader.proofs.Common.{refl, sym, ap, ◌∙◌, append_assoc, append-nil, ◌>>=◌, some, some_is, none, none_is_some}
use Rattle.pg_aiger_reader.proofs.Common.{AllByRecursion, chosen, inl, inr, eqb-true, drop, get_or, latches_at, drop_more, drop_all, ne_eqb}
use Rattle.pg_aiger_reader.proofs.Common.{arith, eqb-false, reset_fault, ReaderFault}
use Rattle.pg_aiger_reader.specs.declared.fault.ReaderFault.TheVariants.{Reset}
use Rattle.pg_aiger_reader.specs.Faults.{IsFirstReset}
use Rattle.pg_aiger.specs.declared.gate.Latch.{Latch}
use Rattle.pg_aiger_reader.specs.declared.item.LatchLine.{LatchLine}
use Rattle.pg_aiger_reader.specs.Texts.{latch_in}

abbrev pub with_latches : List Latch → Option (List Latch) → Option (List Latch)
with_latches front read = read >>= λ xs. Some (front ++ xs)

regroup : (front : List Latch) (x : Latch) (read : Option (List Latch)) → with_latches front (read >>= λ xs. Some (x ∷ xs)) ≡ with_latches (front ++ x ∷ []) read
regroup front x None = refl
regroup front x (Some xs) = ap (λ (ys : List Latch). some ys) (sym (append_assoc front (x ∷ []) xs))

one_more : (front : List Latch) (l : LatchLine) (ls : List LatchLine) → l.reset ≡ 0
    → with_latches front (latches_at (l ∷ ls)) ≡ with_latches (front ++ latch_in l ∷ []) (latches_at ls)
unfolding latches_at
one_more front l ls starts = rw starts (regroup front (latch_in l) (latches_at ls))

pub latches_go_on : (front : List Latch) (lines : List LatchLine) (i : ℕ) (d : LatchLine) (total : Option (List Latch)) → i < length lines
    → (get_or lines i d).reset ≡ 0 → with_latches front (latches_at (drop i lines)) ≡ total
    → with_latches (front ++ latch_in (get_or lines i d) ∷ []) (latches_at (drop (i + 1) lines)) ≡ total
latches_go_on front lines i d total lt starts so_far =
    sym (ap (λ ls. with_latches front (latches_at ls)) (drop_more lines i d lt) ∙ one_more front (get_or lines i d) (drop (i + 1) lines) starts) ∙ so_far

no_more : (front : List Latch) (l : LatchLine) (ls : List LatchLine) → (l.reset ≡ 0 → ⊥) → with_latches front (latches_at (l ∷ ls)) ≡ None
unfolding latches_at
no_more front l ls other = rw (ne_eqb l.reset 0 other) refl

pub latches_stop : (front : List Latch) (lines : List LatchLine) (i : ℕ) (d : LatchLine) (total : Option (List Latch)) → i < length lines
    → ((get_or lines i d).reset ≡ 0 → ⊥) → with_latches front (latches_at (drop i lines)) ≡ total → total ≡ None
latches_stop front lines i d total lt other so_far =
    sym so_far ∙ ap (λ ls. with_latches front (latches_at ls)) (drop_more lines i d lt) ∙ no_more front (get_or lines i d) (drop (i + 1) lines) other

none_left : (front : List Latch) → with_latches front (latches_at []) ≡ Some front
unfolding latches_at
none_left front = ap (λ (ys : List Latch). some ys) (append-nil front)

pub latches_done : (front : List Latch) (lines : List LatchLine) (i : ℕ) (total : Option (List Latch)) → length lines ≤ i
    → with_latches front (latches_at (drop i lines)) ≡ total → total ≡ Some front
latches_done front lines i total le so_far =
    sym so_far ∙ ap (λ ls. with_latches front (latches_at ls)) (drop_all i lines le) ∙ none_left front

-- ---- what is read

pub latches_found : (lines : List LatchLine) (xs : List Latch) → latches_at lines ≡ Some xs → (xs ≡ map latch_in lines) × AllByRecursion (λ l. l.reset ≡ 0) lines
unfolding latches_at
latches_found [] xs e = (sym (some_is [] xs e), tt)
latches_found (l ∷ ls) xs e =
    elim (chosen (eqb l.reset 0) (latches_at ls >>= λ ys. Some (latch_in l ∷ ys)) none (some xs) e) [
      | inl w ↦ of_rest (λ ys same. latches_found ls ys same) (latches_at ls) refl (eqb-true l.reset 0 w.0) w.1
      | inr w ↦ absurd (none_is_some xs w.1)
    ]
  where
    of_rest : ((ys : List Latch) → latches_at ls ≡ Some ys → (ys ≡ map latch_in ls) × AllByRecursion (λ l. l.reset ≡ 0) ls)
        → (read : Option (List Latch)) → latches_at ls ≡ read → l.reset ≡ 0 → (read >>= λ ys. Some (latch_in l ∷ ys)) ≡ Some xs
        → (xs ≡ map latch_in (l ∷ ls)) × AllByRecursion (λ l. l.reset ≡ 0) (l ∷ ls)
    of_rest again None same starts e = absurd (none_is_some xs e)
    of_rest again (Some ys) same starts e =
        let below = again ys same in
        (sym (some_is (latch_in l ∷ ys) xs e) ∙ ap (λ zs. latch_in l ∷ zs) below.0, (starts, below.1))

pub latches_only : (lines : List LatchLine) → AllByRecursion (λ l. l.reset ≡ 0) lines → latches_at lines ≡ Some (map latch_in lines)
unfolding latches_at
latches_only [] are = refl
latches_only (l ∷ ls) are = rw (are.0, latches_only ls are.1) refl

-- ---- the first that doesn't start at 0

pub reset_found : (lines : List LatchLine) (place : ℕ) (fault : ReaderFault) → reset_fault place lines ≡ Some fault
    → (k : ℕ) × (fault ≡ Reset (place + k)) × IsFirstReset lines k
unfolding reset_fault
reset_found [] place fault e = absurd (none_is_some fault e)
reset_found (l ∷ lines) place fault e =
    elim (chosen (eqb l.reset 0) (reset_fault (suc place) lines) (some (Reset place)) (some fault) e) [
      | inl w ↦
          let (k, same, first) = reset_found lines (suc place) fault w.1 in
          let next : suc place + k ≡ place + suc k = omega arith in
          (suc k, same ∙ ap Reset next, (eqb-true l.reset 0 w.0, first))
      | inr w ↦
          let here : place ≡ place + 0 = omega arith in
          (0, sym (some_is (Reset place) fault w.1) ∙ ap Reset here, eqb-false l.reset 0 w.0)
    ]

pub reset_only : (lines : List LatchLine) (place k : ℕ) → IsFirstReset lines k → reset_fault place lines ≡ Some (Reset (place + k))
unfolding reset_fault
reset_only [] place k is = absurd is
reset_only (l ∷ lines) place zero is =
    let here : place ≡ place + 0 = omega arith in
    rw (ne_eqb l.reset 0 is) (ap (λ n. some (Reset n)) here)
reset_only (l ∷ lines) place (suc k) is =
    let next : suc place + k ≡ place + suc k = omega arith in
    rw is.0 (reset_only lines (suc place) k is.1 ∙ ap (λ n. some (Reset n)) next)

pub resets_none : (lines : List LatchLine) (place : ℕ) → AllByRecursion (λ l. l.reset ≡ 0) lines → reset_fault place lines ≡ None
unfolding reset_fault
resets_none [] place are = refl
resets_none (l ∷ lines) place are = rw are.0 (resets_none lines (suc place) are.1)

-- in a loop

pub reset_goes_on : (lines : List LatchLine) (i : ℕ) (d : LatchLine) (named : Option ReaderFault) → i < length lines → (get_or lines i d).reset ≡ 0
    → reset_fault i (drop i lines) ≡ named → reset_fault (i + 1) (drop (i + 1) lines) ≡ named
unfolding reset_fault
reset_goes_on lines i d named lt starts so_far =
    sym (ap (reset_fault i) (drop_more lines i d lt) ∙ one (get_or lines i d) (drop (i + 1) lines) starts) ∙ so_far
  where
    one : (l : LatchLine) (ls : List LatchLine) → l.reset ≡ 0 → reset_fault i (l ∷ ls) ≡ reset_fault (i + 1) ls
    one l ls starts = let next : suc i ≡ i + 1 = omega arith in rw starts (ap (λ n. reset_fault n ls) next)

pub reset_stops : (lines : List LatchLine) (i : ℕ) (d : LatchLine) (named : Option ReaderFault) → i < length lines
    → ((get_or lines i d).reset ≡ 0 → ⊥) → reset_fault i (drop i lines) ≡ named → named ≡ Some (Reset i)
unfolding reset_fault
reset_stops lines i d named lt other so_far =
    sym so_far ∙ ap (reset_fault i) (drop_more lines i d lt) ∙ one (get_or lines i d) (drop (i + 1) lines) other
  where
    one : (l : LatchLine) (ls : List LatchLine) → (l.reset ≡ 0 → ⊥) → reset_fault i (l ∷ ls) ≡ Some (Reset i)
    one l ls other = rw (ne_eqb l.reset 0 other) refl

pub reset_done : (lines : List LatchLine) (i : ℕ) (named : Option ReaderFault) → length lines ≤ i → reset_fault i (drop i lines) ≡ named
    → named ≡ None
unfolding reset_fault
reset_done lines i named le so_far = sym so_far ∙ ap (reset_fault i) (drop_all i lines le) ∙ none_at
  where
    none_at : reset_fault i [] ≡ None
    none_at = refl
