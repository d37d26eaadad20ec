use Rattle.pg_hoa_syntax.proofs.Common.{◌≡◌, ◌∙◌, ℕ, true, false, min, List, [], ◌∷◌, ◌++◌, map, refl, sym, ap, list_any, ◌==◌, map-append}
use Rattle.pg_hoa_syntax.proofs.Common.{note}
use Rattle.pg_hoa_syntax.proofs.PreambleLaws.{any_numbers}
use Rattle.pg_hoa_syntax.proofs.header.note.Goals as goal

abbrev kept : List (ℕ × ℕ) → List ℕ
kept numbers = map (λ (y : ℕ × ℕ). y.0) numbers

kept_there : (n : ℕ) (xs : List (ℕ × ℕ)) → list_any (λ (x : ℕ × ℕ). x.0 == min n 16) xs ≡ true → note (kept xs) n ≡ kept xs
kept_there n xs e = rw (any_numbers (min n 16) xs, e) refl

pushed : (n : ℕ) (xs : List (ℕ × ℕ)) → list_any (λ (x : ℕ × ℕ). x.0 == min n 16) xs ≡ false → note (kept xs) n ≡ kept xs ++ (min n 16 ∷ [])
pushed n xs e = rw (any_numbers (min n 16) xs, e) refl

pub returns-then-is_noted : goal.returns-then-is_noted
returns-then-is_noted c =
    let there : list_any (λ (x : ℕ × ℕ). x.0 == min c.args.number 16) c.args.numbers.now.items ≡ true =
    rw (← c.min-number.ensures, ← c.deref.ensures.value, ← c.is_noted.ensures) c.if-is_noted.true in
    sym (kept_there c.args.number c.args.numbers.now.items there)

pub returns : goal.returns
returns c =
    let absent : list_any (λ (x : ℕ × ℕ). x.0 == min c.args.number 16) c.args.numbers.now.items ≡ false =
    rw (← c.min-number.ensures, ← c.deref.ensures.value, ← c.is_noted.ensures) c.if-is_noted.false in
    ap kept c.in_ok-push.ensures.items ∙ map-append (λ (y : ℕ × ℕ). y.0) c.args.numbers.now.items ((c.min-number.result, c.args.left) ∷ [])
    ∙ ap (λ (n : ℕ). kept c.args.numbers.now.items ++ (n ∷ [])) c.min-number.ensures
    ∙ sym (pushed c.args.number c.args.numbers.now.items absent)
