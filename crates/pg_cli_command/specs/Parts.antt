-- Two texts in one input, separated by a line of two hyphens.
use Rattle.std.specs.Prelude.{◌≡◌, ℕ, ◌≤◌, List, [], ◌∷◌, ◌++◌, length}

-- the bytes newline, `--`, newline
abbrev pub separator : List ℕ
separator = 10 ∷ 45 ∷ 45 ∷ 10 ∷ []

-- The first text ends with a newline. The line `--` follows it, and then the second text. There is no such line earlier.
pub record IsParted (input first second : List ℕ) : Type 0 where
  pub front : List ℕ
  pub whole : input ≡ front ++ (separator ++ second)
  pub newline : first ≡ front ++ 10 ∷ []
  pub earliest : (before after : List ℕ) → input ≡ before ++ (separator ++ after) → length front ≤ length before

-- the two texts that a command is given
abbrev pub Parting : Type 1
Parting = List ℕ → List ℕ → Type 0

-- these two texts, as in two files, with no line between them
abbrev pub AreApart : List ℕ → List ℕ → Parting
AreApart first second one other = (one ≡ first) × (other ≡ second)
