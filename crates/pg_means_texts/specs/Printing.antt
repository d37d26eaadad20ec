-- The text of a verdict.
use Rattle.std.specs.Prelude.{ℕ, ◌==◌, ◌/◌, ◌%◌, nat_lt, Bool, true, List, [], ◌∷◌, ◌++◌, take, drop, length, codes, if◌then◌else◌}
use Rattle.std.specs.List.{flat_map}
use Rattle.pg_means.specs.declared.verdict.FormulaVerdict.{FormulaVerdict}
use Rattle.pg_means.specs.declared.verdict.FormulaVerdict.TheVariants.{Same, Differs}

-- the names of the propositions that hold at a letter, which has a bit for each, the lowest for the first
abbrev pub holding : List (List ℕ) → ℕ → List (List ℕ)
holding [] letter = []
holding (name ∷ names) letter = if letter % 2 == 1 then name ∷ holding names (letter / 2) else holding names (letter / 2)

-- the names separated by blanks, or `-` if there are none
abbrev pub spaced : List (List ℕ) → List ℕ
spaced [] = codes "-"
spaced (name ∷ names) = name ++ flat_map (λ other. 32 ∷ other) names

abbrev pub letter_line : List (List ℕ) → ℕ → List ℕ
letter_line names letter = spaced (holding names letter) ++ codes "\n"

abbrev pub letter_lines : List (List ℕ) → List ℕ → List ℕ
letter_lines names letters = flat_map (letter_line names) letters

-- which of the two takes the word, as a line
abbrev pub taker : Bool → List ℕ
taker accepted = if accepted then codes "the automaton accepts\n" else codes "the formula holds\n"

-- `SAME`; or `DIFFERS`, which of the two takes the word, a line for each letter, a line `loop`, and the lines of the letters that repeat
abbrev pub verdict_text : List (List ℕ) → FormulaVerdict → List ℕ
verdict_text names Same = codes "SAME\n"
verdict_text names (Differs accepted letters back) =
    codes "DIFFERS\n" ++ (taker accepted ++ (letter_lines names (take back letters.items)
    ++ (codes "loop\n" ++ letter_lines names (drop back letters.items))))

-- a lasso returns to the place of one of its letters
abbrev pub comes_round : FormulaVerdict → Bool
comes_round Same = true
comes_round (Differs accepted letters back) = nat_lt back (length letters.items)
