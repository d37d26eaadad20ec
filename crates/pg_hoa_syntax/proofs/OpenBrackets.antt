-- The last of the open brackets.
use Rattle.pg_hoa_syntax.proofs.Common.{◌≡◌, List, [], ◌∷◌, ◌++◌, Some, refl, split_last}
use Rattle.pg_hoa_syntax.specs.declared.formula.Bracket.{Bracket}

pub split_pushed : (fs : List Bracket) (f : Bracket) → split_last (fs ++ (f ∷ [])) ≡ Some (fs, f)
split_pushed [] f = refl
split_pushed (g ∷ []) f = refl
split_pushed (g ∷ h ∷ fs) f = rw (split_pushed (h ∷ fs) f) refl
