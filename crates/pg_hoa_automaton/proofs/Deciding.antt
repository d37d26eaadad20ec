-- The set of a step that counts: the last where it isn't the first.
use Rattle.std.proofs.Common.{◌≡◌, ◌≢◌, ◌∙◌, ℕ, suc, ◌-◌, List, [], ◌∷◌, length, Option, refl, ap, arith}
use Rattle.std.specs.Prelude.{slice_get}
use Rattle.pg_hoa_automaton.specs.declared.shape.Shape.{Shape}
use Rattle.pg_hoa_automaton.specs.declared.shape.Shape.TheVariants.{MinEven, MinOdd}
use Rattle.pg_hoa_automaton.specs.Automata.{last, deciding}

last_at : (xs : List ℕ) → slice_get xs (length xs - 1) ≡ last xs
last_at [] = refl
last_at (x ∷ []) = refl
last_at (x ∷ y ∷ xs) =
    let here : length (x ∷ y ∷ xs) - 1 ≡ suc (length (y ∷ xs) - 1) = omega arith in
    ap (slice_get (x ∷ y ∷ xs)) here ∙ last_at (y ∷ xs)

pub decides_last : (shape : Shape) (xs : List ℕ) (o : Option ℕ) → (shape ≢ MinEven) → (shape ≢ MinOdd) → o ≡ slice_get xs (length xs - 1)
    → o ≡ deciding shape xs
decides_last MinEven xs o a b e = absurd (a refl)
decides_last MinOdd xs o a b e = absurd (b refl)
decides_last _ xs o a b e = e ∙ last_at xs
