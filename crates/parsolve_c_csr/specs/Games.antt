-- Games as arrays, in compressed sparse rows.
use Rattle.std.specs.Prelude.{◌≡◌, ℕ, ◌+◌, ◌<◌, ◌≤◌, ◌==◌, List, length, map, All, None, slice_index, slice_range, if◌then◌else◌}
use Rattle.std.specs.List.{range_with_len}
use Rattle.pg_list_lemmas.specs.Rising.{rising}
use Rattle.pg_arena.specs.declared.limits.TheConstants.{MAX_PRIORITY, MAX_VERTICES, MAX_EDGES}
use Rattle.pg_arena.specs.declared.player.Player.{Player}
use Rattle.pg_arena.specs.declared.player.Player.TheVariants.{Even, Odd}
use Rattle.pg_arena.specs.Games.{GameVertex}
use Rattle.parsolve_c_csr.specs.declared.arrays.Arrays.{Arrays}

-- The arrays of a game: for each vertex its priority, its owner, and where its successors start among the successors of all. The last
-- start belongs to no vertex: the successors of the last vertex end there.
pub record GameArrays : Type 0 where
  pub priorities : List ℕ
  pub owners : List ℕ
  pub starts : List ℕ
  pub successors : List ℕ

-- the numbers that are in memory
abbrev pub arrays_of : Arrays → GameArrays
arrays_of arrays = record {
  priorities = arrays.priorities.now;
  owners = arrays.owners.now;
  starts = arrays.starts.now;
  successors = arrays.successors.now;
}

-- 0 is Even, 1 is Odd
abbrev pub player_of : ℕ → Player
player_of n = if n == 0 then Even else Odd

-- the successors of v as they are in the arrays: from its start to the next one
abbrev pub row : GameArrays → ℕ → List ℕ
row a v = slice_range a.successors (slice_index a.starts v) (slice_index a.starts (v + 1))

-- the vertex v: a repeated successor counts once
abbrev pub vertex_of : GameArrays → ℕ → GameVertex
vertex_of a v = record {
  identifier = v;
  priority = slice_index a.priorities v;
  owner = player_of (slice_index a.owners v);
  successors = rising (row a v);
  name = None;
}

-- the game of the arrays: a vertex for each priority
abbrev pub game_of : GameArrays → List GameVertex
game_of a = map (vertex_of a) (range_with_len 0 (length a.priorities))

-- an owner for each priority, and one start more
pub record HaveLengths (a : GameArrays) : Type 0 where
  pub owners : length a.owners ≡ length a.priorities
  pub starts : length a.starts ≡ length a.priorities + 1

-- lengths that fit together, and that a game within the limits can have
pub record HaveSizes (a : GameArrays) : Type 0 where
  pub lengths : HaveLengths a
  pub some : 0 < length a.priorities
  pub few_vertices : length a.priorities ≤ MAX_VERTICES
  pub few_edges : length a.successors ≤ MAX_EDGES

-- v has a priority and an owner within the limits
pub record HasPlayer (a : GameArrays) (v : ℕ) : Type 0 where
  pub priority : slice_index a.priorities v ≤ MAX_PRIORITY
  pub owner : slice_index a.owners v ≤ 1

-- the row of v is within the array, and isn't empty
pub record HasRow (a : GameArrays) (v : ℕ) : Type 0 where
  pub within : slice_index a.starts (v + 1) ≤ length a.successors
  pub some : slice_index a.starts v < slice_index a.starts (v + 1)

-- v is a vertex as it must be: its priority and owner are within the limits, its row is within the array, and each successor is a vertex
pub record IsRow (a : GameArrays) (v : ℕ) : Type 0 where
  pub player : HasPlayer a v
  pub place : HasRow a v
  pub vertices : All (λ w. w < length a.priorities) (row a v)

-- arrays that spell a game within the limits
pub record SpellsGame (a : GameArrays) : Type 0 where
  pub sizes : HaveSizes a
  pub rows : (v : ℕ) → v < length a.priorities → IsRow a v
