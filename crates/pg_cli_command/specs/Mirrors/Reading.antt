-- The bytes that were read from an input, if they are known.
use Rattle.std.specs.Prelude.{◌≡◌, ℕ, List, ◌++◌, ⊤, Option, None, Some}

-- the bytes read and the bytes left are together the same as before
abbrev pub Keeps : Option (List ℕ) → List ℕ → Option (List ℕ) → List ℕ → Type 0
Keeps None before new after = ⊤
Keeps (Some xs) before None after = ⊥
Keeps (Some xs) before (Some ys) after = after ++ ys ≡ before ++ xs
