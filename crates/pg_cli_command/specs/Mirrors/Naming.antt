-- The vertices that a verdict names.
use Rattle.std.specs.Prelude.{◌<◌, List, length, All}
use Rattle.pg_arena.specs.Games.{GameVertex}
use Rattle.pg_check.specs.declared.verdict.Verdict.{Verdict}
use Rattle.pg_check.specs.declared.verdict.Verdict.TheVariants.{Wins, Leaves, BadCycle}

-- they are vertices of the game
abbrev pub IsWithin : List GameVertex → Verdict → Type 0
IsWithin game Wins = Unit {0}
IsWithin game (Leaves v w) = (v < length game) × (w < length game)
IsWithin game (BadCycle cycle) = All (λ v. v < length game) cycle.items
