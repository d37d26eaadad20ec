-- The condition of a shape is nested: each set stands round those inside.
use Rattle.std.proofs.Common.{◌≡◌, ℕ, suc, zero, ◌+◌, ◌%◌, ◌==◌, ◌<◌, Bool, Some, refl, sym, ap, ◌∙◌, arith}
use Rattle.std.proofs.lemmas.Bool.Decides.{nat_tests}
use Rattle.pg_hoa_automaton.specs.declared.shape.Shape.{Shape}
use Rattle.pg_hoa_automaton.specs.declared.shape.Shape.TheVariants.{MaxEven, MaxOdd, MinEven, MinOdd}
use Rattle.pg_hoa_automaton.specs.Formulas.{Formula}
use Rattle.pg_hoa_automaton.specs.Shapes.{is_even, leaf, decides, max_even, max_odd, min_even, min_odd, condition_of, FitsShape, place}
use Rattle.pg_hoa_automaton.specs.Mirrors.Nests.{set_at, wanted_at}
use Rattle.pg_list_lemmas.proofs.Steps.{some, none_is_some}

-- the sets one inside the other
abbrev pub nested : (ℕ → ℕ) → (ℕ → Bool) → ℕ → Formula
nested set wanted zero = leaf (wanted 0) (set 0)
nested set wanted (suc inside) = decides (wanted (suc inside)) (set (suc inside)) (nested set wanted inside)

abbrev pub nested_in : Shape → ℕ → ℕ → Formula
nested_in shape sets inside = nested (set_at shape sets) (wanted_at shape sets) inside

two_more : (k : ℕ) → is_even (suc (suc k)) ≡ is_even k
two_more k = let same : suc (suc k) % 2 ≡ k % 2 = omega arith in ap (λ (r : ℕ). r == 0) same

max_even_nested : (sets k : ℕ) → max_even k ≡ nested_in MaxEven sets k
max_even_nested sets zero = refl
max_even_nested sets (suc k) = ap (decides (is_even (suc k)) (suc k)) (max_even_nested sets k)

max_odd_nested : (sets k : ℕ) → max_odd k ≡ nested_in MaxOdd sets k
max_odd_nested sets zero = refl
max_odd_nested sets (suc k) = ap (λ (b : Bool). decides b (suc k) (max_odd k)) (sym (two_more k))
    ∙ ap (decides (is_even (suc (suc k))) (suc k)) (max_odd_nested sets k)

min_even_nested : (sets k more : ℕ) → sets ≡ suc (k + more) → min_even k more ≡ nested_in MinEven sets more
min_even_nested sets k zero e = grind (arith, nat_tests)
min_even_nested sets k (suc more) e = grind (arith, nat_tests, min_even_nested sets (suc k) more (omega arith))

min_odd_nested : (sets k more : ℕ) → sets ≡ suc (k + more) → min_odd k more ≡ nested_in MinOdd sets more
min_odd_nested sets k zero e = grind (arith, nat_tests)
min_odd_nested sets k (suc more) e = grind (arith, nat_tests, min_odd_nested sets (suc k) more (omega arith))

pub condition_nested : (shape : Shape) (k : ℕ) → place shape < 4 → condition_of shape (suc k) ≡ Some (nested_in shape (suc k) k)
condition_nested MaxEven k h = ap some (max_even_nested (suc k) k)
condition_nested MaxOdd k h = ap some (max_odd_nested (suc k) k)
condition_nested MinEven k h = ap some (min_even_nested (suc k) 0 k (omega arith))
condition_nested MinOdd k h = ap some (min_odd_nested (suc k) 0 k (omega arith))
condition_nested _ k h = absurd (omega arith)

pub no_constant : (shape : Shape) (k : ℕ) (f : Formula) → FitsShape f (suc k) shape → place shape < 4
no_constant MaxEven k f fits = omega arith
no_constant MaxOdd k f fits = omega arith
no_constant MinEven k f fits = omega arith
no_constant MinOdd k f fits = omega arith
no_constant _ k f fits = absurd (none_is_some fits.0 fits.1)
