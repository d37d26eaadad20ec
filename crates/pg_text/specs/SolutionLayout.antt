-- The layout in which a solution is printed, and what it says of the solution.
use Rattle.std.specs.Prelude.{ℕ, ◌-◌, List, [], ◌++◌, Option, Some, None, length, map, codes, decimal, option_map, if◌then◌else◌}
use Rattle.std.specs.List.{flat_map, range_with_len}
use Rattle.pg_arena.specs.Games.{GameVertex, identifier}
use Rattle.pg_text.specs.declared.answer.Answer.{Answer}
use Rattle.pg_text.specs.declared.solution_line.SolutionLine.{SolutionLine}
use Rattle.pg_text.specs.Solutions.{winner, choice}
use Rattle.pg_text.specs.GameText.{player_number}
use Rattle.pg_text.specs.SolutionText.{owns}

-- the answer at v, without a choice if the winner doesn't own v
abbrev pub printed_answer : List GameVertex → List Answer → ℕ → Answer
printed_answer game solution v = record {
  winner = winner solution v;
  choice = if owns game (winner solution v) v then choice solution v else None;
}

-- the solution without the choices on vertices that the winner doesn't own
abbrev pub printed_answers : List GameVertex → List Answer → List Answer
printed_answers game solution = map (printed_answer game solution) (range_with_len 0 (length game))

-- the line of v: it has a strategy exactly if the winner owns v
abbrev pub printed_line : List GameVertex → List Answer → ℕ → SolutionLine
printed_line game solution v = record {
  identifier = identifier game v;
  winner = winner solution v;
  strategy = option_map (identifier game) (printed_answer game solution v).choice;
}

-- a line for each vertex, by rising identifier
abbrev pub printed_lines : List GameVertex → List Answer → List SolutionLine
printed_lines game solution = map (printed_line game solution) (range_with_len 0 (length game))

-- a space and the number, or nothing
abbrev pub strategy_text : Option ℕ → List ℕ
strategy_text None = []
strategy_text (Some n) = codes " " ++ decimal n

-- identifier, winner and perhaps the strategy, separated by single spaces, a semicolon and a newline
abbrev pub answer_text : SolutionLine → List ℕ
answer_text line =
    decimal line.identifier ++ (codes " " ++ (decimal (player_number line.winner) ++
    (strategy_text line.strategy ++ codes ";\n")))

-- a header with the greatest identifier, which is that of the last vertex, and the lines
abbrev pub solution_text : List GameVertex → List Answer → List ℕ
solution_text game solution =
    codes "paritysol " ++ (decimal (identifier game (length game - 1)) ++ (codes ";\n" ++
    flat_map answer_text (printed_lines game solution)))
