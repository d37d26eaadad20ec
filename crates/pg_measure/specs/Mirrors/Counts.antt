-- How many vertices have each priority.
use Rattle.std.specs.Prelude.{◌≡◌, ℕ, ◌<◌, List, length, slice_index}
use Rattle.pg_arena.specs.Games.{GameVertex, priority}
use Rattle.pg_measure.specs.Games.{vertices_of}

-- the number at each priority is how many vertices have it, and no greater priority occurs
pub record IsCount (game : List GameVertex) (counts : List ℕ) : Type 0 where
  pub each : (p : ℕ) → p < length counts → slice_index counts p ≡ vertices_of game p
  pub whole : (v : ℕ) → v < length game → priority game v < length counts
