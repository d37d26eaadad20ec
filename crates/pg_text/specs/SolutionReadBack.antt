-- A printed solution reads back.
use Rattle.std.specs.Prelude.{◌≡◌, ◌^◌, ◌<◌, List, All}
use Rattle.pg_arena.specs.Games.{GameVertex, IsGame}
use Rattle.pg_text.specs.declared.answer.Answer.{Answer}
use Rattle.pg_text.specs.Solutions.{IsSolution}
use Rattle.pg_text.specs.SolutionText.{IsSolutionText}
use Rattle.pg_text.specs.SolutionLayout.{printed_answers, solution_text}

-- If the identifiers are within their limit, the text of a solution spells its winners and its choices on vertices that
-- the winner owns, and nothing else.
abbrev pub SolutionReadsBack : Type 0
SolutionReadsBack = (game : List GameVertex) (solution : List Answer)
    → IsGame game → All (λ x. x.identifier < 2 ^ 32) game → IsSolution game solution →
    IsSolutionText (solution_text game solution) game (printed_answers game solution)
    × ((other : List Answer) → IsSolutionText (solution_text game solution) game other → other ≡ printed_answers game solution)
