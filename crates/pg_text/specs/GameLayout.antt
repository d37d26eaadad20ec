-- The layout in which a game is printed.
use Rattle.std.specs.Prelude.{ℕ, ◌-◌, List, [], ◌++◌, Option, Some, None, length, codes, decimal}
use Rattle.std.specs.List.{flat_map}
use Rattle.pg_arena.specs.Games.{GameVertex, identifier}
use Rattle.pg_arena.specs.Lines.{Line, lines_of}
use Rattle.pg_text.specs.GameText.{player_number}
use Rattle.pg_text.specs.Numbers.{numbers_text}

-- a space, and the name in quotes as it is
abbrev pub name_text : Option (List ℕ) → List ℕ
name_text None = []
name_text (Some name) = codes " \"" ++ (name ++ codes "\"")

-- identifier, priority, owner and successors separated by single spaces, the name, a semicolon and a newline
abbrev pub line_text : Line → List ℕ
line_text line =
    decimal line.identifier ++ (codes " " ++ (decimal line.priority ++ (codes " " ++
    (decimal (player_number line.owner) ++ (codes " " ++
    (numbers_text line.successors ++ (name_text line.name ++ codes ";\n")))))))

-- a header with the greatest identifier, which is that of the last vertex, and a line for each vertex
abbrev pub game_text : List GameVertex → List ℕ
game_text game =
    codes "parity " ++ (decimal (identifier game (length game - 1)) ++ (codes ";\n" ++
    flat_map line_text (lines_of game)))
