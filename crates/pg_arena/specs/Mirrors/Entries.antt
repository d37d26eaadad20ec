-- How games and builders keep their vertices: identifiers, entries and places of names side by side. The successors of
-- all vertices are in one list, and so are the names.
use Rattle.std.specs.Prelude.{◌≡◌, ℕ, ◌+◌, ◌<◌, ◌≤◌, ◌==◌, List, [], ◌∷◌, length, map, drop, Option, Some, None, slice_range, slice_get}
use Rattle.std.specs.Prelude.{slice_index_or, option_map, All, MatchOption, IfSome, nat_eq}
use Rattle.std.specs.List.{list_any, flat_map, IsDistinct}
use Rattle.std.specs.List.Sorted.{IsStrictlyIncreasing}
use Rattle.std.specs.Ordering.{nat_cmp}
use Rattle.std.specs.BTreeSet.{BTreeSet, contains}
use Rattle.std.specs.declared.vec.Vec.{Vec}
use Rattle.std.specs.declared.alloc.Global.{Global}
use Rattle.pg_arena.specs.declared.entry.Entry.{Entry}
use Rattle.pg_arena.specs.declared.sorted_lines.Key.{Key}
use Rattle.pg_arena.specs.declared.player.Player.{Player}
use Rattle.pg_arena.specs.declared.player.Player.TheVariants.{Even}
use Rattle.pg_arena.specs.declared.limits.TheConstants.{MAX_PRIORITY, MAX_VERTICES, MAX_EDGES}
use Rattle.pg_arena.specs.Games.{GameVertex, IsGame, IsWithinLimits, HasPrioritiesUpTo, opponent}
use Rattle.pg_arena.specs.Lines.{Line}

-- the parts that are kept of one vertex, with the place of its name
pub record Row : Type 0 where
  pub identifier : ℕ
  pub priority : ℕ
  pub owner : Player
  pub from : ℕ
  pub to : ℕ
  pub name : Option ℕ

abbrev pub row_of : ℕ → Option ℕ → Entry → Row
row_of identifier place e = record { identifier = identifier; priority = e.priority; owner = e.owner; from = e.from; to = e.to; name = place }

-- a vertex after the last place has no name
abbrev pub place_at : List (Option ℕ) → ℕ → Option ℕ
place_at places v = slice_index_or places v None

-- what the lists say of each vertex
abbrev pub rows_in : List ℕ → List (Option ℕ) → List Entry → List Row
rows_in [] places entries = []
rows_in (i ∷ identifiers) places [] = []
rows_in (i ∷ identifiers) places (e ∷ entries) = row_of i (place_at places 0) e ∷ rows_in identifiers (drop 1 places) entries

-- the name at a place
abbrev pub name_in : List (Vec ℕ Global) → Option ℕ → Option (List ℕ)
name_in names None = None
name_in names (Some k) = option_map (λ n. n.items) (slice_get names k)

abbrev pub vertex_in : List ℕ → List (Vec ℕ Global) → Row → GameVertex
vertex_in targets names r = record {
  identifier = r.identifier;
  priority = r.priority;
  owner = r.owner;
  successors = slice_range targets r.from r.to;
  name = name_in names r.name;
}

abbrev pub vertices_in : List ℕ → List (Vec ℕ Global) → List Row → List GameVertex
vertices_in targets names rows = map (vertex_in targets names) rows

-- each vertex's successors are in the list of all successors
abbrev pub AreWithin : List ℕ → List Row → Type 0
AreWithin targets rows = All (λ r. (r.from ≤ r.to) × (r.to ≤ length targets)) rows

abbrev pub HaveRanges : List ℕ → List Entry → Type 0
HaveRanges targets entries = All (λ e. (e.from ≤ e.to) × (e.to ≤ length targets)) entries

-- the invariant of a game's vertices
pub record IsBuilt (identifiers targets : List ℕ) (names : List (Vec ℕ Global)) (rows : List Row) : Type 0 where
  pub ranges : AreWithin targets rows
  pub named : identifiers ≡ map (λ r. r.identifier) rows
  pub game : IsGame (vertices_in targets names rows)
  pub limits : IsWithinLimits (vertices_in targets names rows)
  pub priorities : HasPrioritiesUpTo 65536 (vertices_in targets names rows)

-- the invariant of the lists that give a game's vertices
pub record IsBuiltIn (identifiers targets : List ℕ) (names : List (Vec ℕ Global)) (places : List (Option ℕ)) (entries : List Entry) : Type 0 where
  pub as_many : length identifiers ≡ length entries
  pub built : IsBuilt identifiers targets names (rows_in identifiers places entries)

-- each vertex's name is in the list of names
abbrev pub AreNamed : List (Vec ℕ Global) → List Row → Type 0
AreNamed names rows = All (λ r. IfSome r.name (λ k. k < length names)) rows

-- the properties of an accepted line, whatever the others are
pub record IsOrderly (line : Line) : Type 0 where
  pub priority : line.priority ≤ MAX_PRIORITY
  pub goes_on : 0 < length line.successors
  pub rise : IsStrictlyIncreasing line.successors

-- the invariant of a builder's lines; their successors come one line after another
pub record AreKept (identifiers targets : List ℕ) (names : List (Vec ℕ Global)) (rows : List Row) : Type 0 where
  pub ranges : AreWithin targets rows
  pub named : AreNamed names rows
  pub listed : identifiers ≡ map (λ r. r.identifier) rows
  pub distinct : IsDistinct nat_eq identifiers
  pub laid : targets ≡ flat_map (λ line. line.successors) (vertices_in targets names rows)
  pub orderly : All IsOrderly (vertices_in targets names rows)
  pub few_vertices : length rows ≤ MAX_VERTICES
  pub few_edges : length targets ≤ MAX_EDGES
  pub few_names : length names ≤ length rows

-- the invariant of the lists that give a builder's lines
pub record AreKeptIn (identifiers targets : List ℕ) (names : List (Vec ℕ Global)) (places : List (Option ℕ)) (entries : List Entry) : Type 0 where
  pub as_many : length identifiers ≡ length entries
  pub few_places : length places ≤ length entries
  pub kept : AreKept identifiers targets names (rows_in identifiers places entries)

-- the identifiers rise as long as there is no set, and a set has exactly these identifiers
abbrev pub AreTold : List ℕ → Option (BTreeSet ℕ) → Type 0
AreTold identifiers set = MatchOption set (IsStrictlyIncreasing identifiers)
    (λ s. (q : ℕ) → contains nat_cmp s q ≡ list_any (λ x. q == x) identifiers)

-- the entry of the dual's vertex
abbrev pub dual_entry : Entry → Entry
dual_entry e = record e { owner = opponent e.owner; priority = e.priority + 1 }

abbrev pub dual_row : Row → Row
dual_row r = record r { owner = opponent r.owner; priority = r.priority + 1 }

-- the entry of a line
abbrev pub entry_at : List Entry → ℕ → Entry
entry_at entries k = slice_index_or entries k (record { priority = 0; owner = Even; from = 0; to = 0 })

-- each line's identifier with the line's number, where the first number is given
abbrev pub keys_from : ℕ → List ℕ → List Key
keys_from k [] = []
keys_from k (i ∷ identifiers) = record { identifier = i; line = k } ∷ keys_from (k + 1) identifiers
