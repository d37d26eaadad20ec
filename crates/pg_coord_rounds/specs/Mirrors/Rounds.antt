-- How rounds over links end.
use Rattle.std.specs.Prelude.{◌≡◌, ℕ, ◌+◌, ◌<◌, ◌≤◌, ◌^◌, List, length, Option, IfSome, IfNone}
use Rattle.pg_arena.specs.Games.{GameVertex}
use Rattle.pg_map.specs.Lines.{game_line}
use Rattle.pg_map.specs.Maps.{MapValue, MapAtMost, IsMap, IsClosed, IsNeverAbove, StaysUnder}
use Rattle.pg_map.specs.Weights.{map_weight}
use Rattle.pg_coord_rounds.specs.declared.solver.Solved.{Solved}
use Rattle.pg_coord_rounds.specs.Replies.{Reply, IsLeastOverReplies}

-- n rounds lead from one map to another: one in which nothing rises, and before it at most as many as there are rises
abbrev pub AreRounds : ℕ → MapValue → MapValue → Type 0
AreRounds n from map =
    (1 ≤ n) × (n + map_weight map.bounds map.measures ≤ 1 + map_weight from.bounds from.measures)

-- A map of the game that was found from another map over links: it is at least the other map, and if the links are honest,
-- at most every closed map that is at least the other map.
pub record IsFoundFrom (are_honest : Type 0) (game : List GameVertex) (from found : MapValue) : Type 0 where
  pub bounds : found.bounds ≡ from.bounds
  pub map : IsMap found.bounds (length game) found.measures
  pub above : MapAtMost from.measures found.measures
  pub least : are_honest → StaysUnder from.bounds (game_line game) from.measures found.measures

-- `count` rounds closed the map, over links that may tell replies
pub record Closes (game : List GameVertex) (tell : (ℕ → List Reply) → Type 0) (links : ℕ) (from map : MapValue) (count : ℕ) : Type 0 where
  pub closed : IsClosed map.bounds (game_line game) map.measures
  pub rounds : AreRounds count from map
  pub told : (replies : ℕ → List Reply) → tell replies → IsNeverAbove from.bounds (game_line game) from.measures
      → IsLeastOverReplies (game_line game) count links replies map

-- the end of rounds: the map is closed after `rounds` rounds, or they are given up
pub record Ends (game : List GameVertex) (are_honest : Type 0) (tell : (ℕ → List Reply) → Type 0) (links most_rounds : ℕ) (from map : MapValue)
    (rounds : Option ℕ) : Type 0 where
  pub found : IsFoundFrom are_honest game from map
  pub closes : IfSome rounds (Closes game tell links from map)
  pub limited : IfNone rounds (most_rounds + 1 < 2 ^ 64)

-- `solved.rounds` rounds found a closed map from another map
pub record IsSolvedFrom (game : List GameVertex) (are_honest : Type 0) (tell : (ℕ → List Reply) → Type 0) (links : ℕ) (from : MapValue)
    (solved : Solved) : Type 0 where
  pub found : IsFoundFrom are_honest game from solved.map
  pub closes : Closes game tell links from solved.map solved.rounds
