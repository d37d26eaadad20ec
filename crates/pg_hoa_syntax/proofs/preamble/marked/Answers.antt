use Rattle.pg_hoa_syntax.proofs.Common.{◌≡◌, ◌+◌, ◌==◌, ◌∙◌, ℕ, Bool, List, [], ◌∷◌, ◌++◌, map, ap, arith, nat_tests, list_any}
use Rattle.pg_hoa_syntax.proofs.Common.{map-range_with_len_more, marked}
use Rattle.pg_hoa_syntax.proofs.PreambleLaws.{any_numbers}
use Rattle.pg_hoa_syntax.proofs.preamble.marked.Goals as goal

-- one more mark
more : (controls : List (ℕ × ℕ)) (p : ℕ)
    → marked (map {A = ℕ × ℕ} {B = ℕ} (λ x. x.0) controls) (p + 1) ≡ marked (map {A = ℕ × ℕ} {B = ℕ} (λ x. x.0) controls) p ++
    (list_any (λ (x : ℕ × ℕ). x.0 == p) controls ∷ [])
more controls p =
    map-range_with_len_more (λ q. list_any (λ n. n == q) (map {A = ℕ × ℕ} {B = ℕ} (λ x. x.0) controls)) 0 p p (omega arith)
    ∙ ap (λ (b : Bool). marked (map {A = ℕ × ℕ} {B = ℕ} (λ x. x.0) controls) p ++ (b ∷ [])) (any_numbers p controls)

pub loop-proposition-preserved : goal.loop-proposition-preserved
loop-proposition-preserved c = grind (arith, nat_tests, more c.args.controls.now c.loop-proposition.proposition)
