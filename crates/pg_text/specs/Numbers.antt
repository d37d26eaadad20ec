-- Numbers separated by commas, as tokens and as they are printed.
use Rattle.std.specs.Prelude.{ℕ, List, [], ◌∷◌, ◌++◌, map, codes, decimal}
use Rattle.std.specs.List.{flat_map}
use Rattle.pg_arena.specs.Games.{GameVertex, identifier}
use Rattle.pg_text.specs.Lexemes.{Lexeme, number, comma}

-- a comma and a number
abbrev pub comma_number_lexemes : ℕ → List Lexeme
comma_number_lexemes n = comma ∷ number n ∷ []

-- numbers separated by commas
abbrev pub numbers_lexemes : List ℕ → List Lexeme
numbers_lexemes [] = []
numbers_lexemes (n ∷ ns) = number n ∷ flat_map comma_number_lexemes ns

-- a comma and a number, in decimal digits
abbrev pub comma_number : ℕ → List ℕ
comma_number n = codes "," ++ decimal n

-- numbers separated by commas
abbrev pub numbers_text : List ℕ → List ℕ
numbers_text [] = []
numbers_text (n ∷ ns) = decimal n ++ flat_map comma_number ns

-- the identifiers of vertices, separated by commas
abbrev pub identifiers_text : List GameVertex → List ℕ → List ℕ
identifiers_text game vertices = numbers_text (map (identifier game) vertices)
