-- The first place of the separator parts an input.
use Rattle.pg_cli_command.proofs.Common.{◌≡◌, ℕ, ◌+◌, ◌-◌, ◌≤◌, List, [], ◌∷◌, ◌++◌, length, take, drop, sym, ap, subst, inl, inr, ◌∙◌, arith}
use Rattle.pg_cli_command.proofs.Common.{length-append, length-drop, length-take-le, take-append-drop, drop-append_seam, take-append-add}
use Rattle.pg_cli_command.proofs.Common.{take_all, cases_lt, OccursAt, Nowhere, NoneBefore, OccursAt-from_part, OccursAt-split, separator}
use Rattle.pg_cli_command.proofs.Common.{IsParted}

-- where the bytes stand, they occur
pub occurs_behind : (input front second : List ℕ) → input ≡ front ++ (separator ++ second) → OccursAt input separator (length front)
occurs_behind input front second whole =
    let P : List ℕ → Type 0 = λ l. OccursAt l separator (length front) in
    let seam : drop (length front) (front ++ (separator ++ second)) ≡ separator ++ second = drop-append_seam front (separator ++ second) in
    let fits : length front + 4 ≤ length (front ++ (separator ++ second)) = omega (arith, length-append front (separator ++ second)) in
    subst P (sym whole) (OccursAt-from_part (front ++ (separator ++ second)) separator (length front) fits (ap (take 4) seam))

-- an input is what stands in front of an occurrence, the separator, and what is behind it
pub whole_at : (input : List ℕ) (k : ℕ) → OccursAt input separator k → input ≡ take k input ++ (separator ++ drop (k + 4) input)
whole_at input k h = sym (take-append-drop k input) ∙ ap (λ l. take k input ++ l) (OccursAt-split input separator k h)

pub parted_at : (input : List ℕ) (k : ℕ) → NoneBefore (OccursAt input separator) 0 (length input + 1) k → OccursAt input separator k
    → IsParted input (take (k + 1) input) (take (length input - (k + 4)) (drop (k + 4) input))
parted_at input k none h =
    let fits : k + 4 ≤ length input = h.fits in
    let size : length (take k input) ≡ k = length-take-le k input (omega arith) in
    let whole = whole_at input k h in
    let all : take (length input - (k + 4)) (drop (k + 4) input) ≡ drop (k + 4) input = take_all _ _ (omega (arith, length-drop (k + 4) input)) in
    record {
      front = take k input;
      whole = whole ∙ ap (λ l. take k input ++ (separator ++ l)) (sym all);
      newline =
          let longer : take (length (take k input) + 1) (take k input ++ (separator ++ drop (k + 4) input)) ≡ take k input ++ 10 ∷ [] =
          take-append-add (take k input) (separator ++ drop (k + 4) input) 1 in
          ap (take (k + 1)) whole ∙ ap (λ n. take (n + 1) (take k input ++ (separator ++ drop (k + 4) input))) (sym size) ∙ longer;
      earliest = λ before after e.
          elim (cases_lt (length before) k) [
            | inl less ↦ absurd (none.before (length before) (omega arith) less (occurs_behind input before after e))
            | inr more ↦ omega arith
          ];
    }

-- where the separator doesn't occur nothing is parted
pub not_parted : (input : List ℕ) → Nowhere (OccursAt input separator) 0 (length input + 1) → (first second : List ℕ) → ¬ IsParted input first second
not_parted input none first second parted =
    let h = occurs_behind input parted.front second parted.whole in
    let fits : length parted.front + 4 ≤ length input = h.fits in
    none (length parted.front) (omega arith) (omega arith) h
