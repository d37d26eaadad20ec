-- Parity games: vertices, edges, paths, and the dual of a game.
use Rattle.std.specs.Prelude.{◌≡◌, ℕ, ◌+◌, ◌%◌, ◌<◌, ◌≤◌, List, [], ◌∷◌, Option, None, length, map, slice_index_or, All, Contains}
use Rattle.std.specs.List.{sum_by}
use Rattle.std.specs.List.Sorted.{IsStrictlyIncreasing}
use Rattle.pg_arena.specs.declared.limits.TheConstants.{MAX_VERTICES, MAX_EDGES}
use Rattle.pg_arena.specs.declared.player.Player.{Player}
use Rattle.pg_arena.specs.declared.player.Player.TheVariants.{Even, Odd}

abbrev pub opponent : Player → Player
opponent Even = Odd
opponent Odd = Even

-- Even has the even priorities, Odd the odd ones
abbrev pub HasParityOf : Player → ℕ → Type 0
HasParityOf Even p = p % 2 ≡ 0
HasParityOf Odd p = p % 2 ≡ 1

-- p is the greatest of these priorities
pub record IsGreatest (p : ℕ) (priorities : List ℕ) : Type 0 where
  pub occurs : Contains priorities p
  pub above_all : All (λ q. q ≤ p) priorities

-- The contents of one vertex. In a game a successor is the number of a vertex: its place in the game, from 0.
pub record GameVertex : Type 0 where
  pub identifier : ℕ
  pub priority : ℕ
  pub owner : Player
  pub successors : List ℕ
  pub name : Option (List ℕ)

-- the vertex at a number past the last one
abbrev pub nowhere : GameVertex
nowhere = record { identifier = 0; priority = 0; owner = Even; successors = []; name = None }

-- the vertex with the number v
abbrev pub vertex_at : List GameVertex → ℕ → GameVertex
vertex_at game v = slice_index_or game v nowhere

abbrev pub identifier : List GameVertex → ℕ → ℕ
identifier game v = (vertex_at game v).identifier

abbrev pub priority : List GameVertex → ℕ → ℕ
priority game v = (vertex_at game v).priority

abbrev pub owner : List GameVertex → ℕ → Player
owner game v = (vertex_at game v).owner

abbrev pub successors : List GameVertex → ℕ → List ℕ
successors game v = (vertex_at game v).successors

abbrev pub name : List GameVertex → ℕ → Option (List ℕ)
name game v = (vertex_at game v).name

abbrev pub identifiers : List GameVertex → List ℕ
identifiers game = map (λ x. x.identifier) game

abbrev pub edge_count : List GameVertex → ℕ
edge_count game = sum_by (λ x. length x.successors) game

-- an edge leads from v to w
abbrev pub IsEdge : List GameVertex → ℕ → ℕ → Type 0
IsEdge game v w = Contains (successors game v) w

-- A parity game: its vertices by rising identifier, at least one. Each has a successor, its successors rise,
-- and each of them is a vertex of the game.
pub record IsGame (game : List GameVertex) : Type 0 where
  pub nonempty : 0 < length game
  pub rising : IsStrictlyIncreasing (identifiers game)
  pub goes_on : (v : ℕ) → v < length game → 0 < length (successors game v)
  pub successors_rise : (v : ℕ) → IsStrictlyIncreasing (successors game v)
  pub in_range : (v w : ℕ) → IsEdge game v w → w < length game

-- the size of a game is within the limits
pub record IsWithinLimits (game : List GameVertex) : Type 0 where
  pub vertices : length game ≤ MAX_VERTICES
  pub edges : edge_count game ≤ MAX_EDGES

-- no priority is above the limit
abbrev pub HasPrioritiesUpTo : ℕ → List GameVertex → Type 0
HasPrioritiesUpTo limit game = All (λ x. x.priority ≤ limit) game

-- v, and then the vertices of the list: each is reached from the one before by a step
abbrev pub IsPath : (ℕ → ℕ → Type 0) → ℕ → List ℕ → Type 0
IsPath Step v [] = Unit {0}
IsPath Step v (w ∷ rest) = Step v w × IsPath Step w rest

-- the vertex with the other player as its owner and its priority raised by one
abbrev pub dual_vertex : GameVertex → GameVertex
dual_vertex x = record x { owner = opponent x.owner; priority = x.priority + 1 }

-- the dual: owners are swapped, each priority is raised by one, and everything else is kept
abbrev pub dual : List GameVertex → List GameVertex
dual game = map dual_vertex game
