-- FormulaToken by token through a formula.
use Rattle.std.proofs.Common.{◌≡◌, ℕ, suc, ◌+◌, ◌<◌, ◌≤◌, List, [], ◌∷◌, ◌++◌, length, get_or, take, drop, Option, Some, None, refl, sym}
use Rattle.std.proofs.Common.{subst, ap, ◌∙◌, arith, drop-cons}
use Rattle.std.proofs.lemmas.List.{length-drop, nil_from_length, take_more, get_or_default}
use Rattle.pg_list_lemmas.proofs.Steps.{some_is, none_is_some}
use Rattle.pg_ltl.specs.declared.token.FormulaToken.{FormulaToken}
use Rattle.pg_ltl.specs.Mirrors.Run.{Kept, turn_at, finish_at, run_if, run_at, steps_if, steps_at, starting}
use Rattle.pg_ltl.specs.Mirrors.Readings.{IsStuck}

pub run_more : (k next : Kept) (ts : List FormulaToken) (i : ℕ) (d : FormulaToken) → i < length ts → turn_at k (get_or ts i d) ≡ Some next
    → run_at next (drop (i + 1) ts) ≡ run_at k (drop i ts)
unfolding run_at
run_more k next ts i d lt e =
    let one : i + 1 ≡ suc i = omega arith in
    ap (λ n. run_at next (drop n ts)) one
    ∙ sym (ap (λ (o : Option Kept). run_if (λ r. run_at r (drop (suc i) ts)) o) e)
    ∙ sym (ap (run_at k) (drop-cons ts i d lt))

pub run_stuck : (k : Kept) (ts : List FormulaToken) (i : ℕ) (d : FormulaToken) → i < length ts → turn_at k (get_or ts i d) ≡ None
    → run_at k (drop i ts) ≡ None
unfolding run_at
run_stuck k ts i d lt e =
    ap (run_at k) (drop-cons ts i d lt) ∙ ap (λ (o : Option Kept). run_if (λ r. run_at r (drop (suc i) ts)) o) e

pub run_ends : (k : Kept) (ts : List FormulaToken) (i : ℕ) → length ts ≤ i → run_at k (drop i ts) ≡ finish_at k
unfolding run_at
run_ends k ts i le = ap (run_at k) (drop_past ts i le)
  where
    drop_past : (xs : List FormulaToken) (n : ℕ) → length xs ≤ n → drop n xs ≡ []
    drop_past xs n h = nil_from_length (drop n xs) (let l = length-drop n xs in omega (arith, l, h))

steps_push : (ts : List FormulaToken) (k r s : Kept) (t : FormulaToken) → steps_at k ts ≡ Some r → turn_at r t ≡ Some s → steps_at k (ts ++ (t ∷ [])) ≡ Some s
unfolding steps_at
steps_push [] k r s t e h =
    ap (λ (q : Kept). steps_if (λ u. Some u) (turn_at q t)) (some_is k r e) ∙ ap (λ (o : Option Kept). steps_if (λ u. Some u) o) h
steps_push (u ∷ us) k r s t e h =
    elim (turn_at k u) as (λ o. steps_if (λ q. steps_at q us) o ≡ Some r → steps_if (λ q. steps_at q (us ++ (t ∷ []))) o ≡ Some s) [
      | None ↦ λ g. absurd (none_is_some r g)
      | Some q ↦ λ g. steps_push us q r s t g h
    ] e

pub steps_more : (ts : List FormulaToken) (i : ℕ) (k r s : Kept) (d : FormulaToken) → i < length ts → steps_at k (take i ts) ≡ Some r
    → turn_at r (get_or ts i d) ≡ Some s → steps_at k (take (i + 1) ts) ≡ Some s
steps_more ts i k r s d lt e h = ap (steps_at k) (take_more ts i d lt) ∙ steps_push (take i ts) k r s (get_or ts i d) e h

pub starts : (k : Kept) → steps_at k [] ≡ Some k
unfolding steps_at
starts k = refl

pub stuck_there : (ts : List FormulaToken) (i : ℕ) (k : Kept) (d : FormulaToken) → i < length ts → steps_at starting (take i ts) ≡ Some k
    → turn_at k (get_or ts i d) ≡ None → IsStuck ts i
stuck_there ts i k d lt e h = record {
  within = omega (arith, lt);
  kept = k;
  reached = e;
  stuck = λ other below. ap (turn_at k) (get_or_default ts i other d below) ∙ h;
}

pub stuck_behind : (ts : List FormulaToken) (i : ℕ) (k : Kept) → i ≤ length ts → length ts ≤ i → steps_at starting (take i ts) ≡ Some k → IsStuck ts (length ts)
stuck_behind ts i k le ge e =
    let same : i ≡ length ts = omega (arith, le, ge) in
    record {
      within = omega arith;
      kept = k;
      reached = subst (λ (n : ℕ). steps_at starting (take n ts) ≡ Some k) same e;
      stuck = λ other below. absurd (omega (arith, below));
    }
