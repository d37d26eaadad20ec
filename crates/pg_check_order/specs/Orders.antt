-- Orders of the nodes of a graph that show who wins its cycles.
use Rattle.std.specs.Prelude.{ℕ, ◌<◌, ◌≤◌, List, [], ◌∷◌, ◌++◌, map, slice_index_or}
use Rattle.pg_arena.specs.declared.player.Player.{Player}
use Rattle.pg_arena.specs.Games.{HasParityOf, IsPath, IsGreatest}
use Rattle.pg_check_order.specs.declared.span.Span.{Span}

-- the player wins each cycle of edges: the greatest priority on it is one of the player's
abbrev pub WinsCycles : Player → (ℕ → ℕ → Type 0) → (ℕ → ℕ) → Type 0
WinsCycles player Edge priority =
    (v : ℕ) (rest : List ℕ) (q : ℕ) → IsPath Edge v (rest ++ v ∷ []) → IsGreatest q (map priority (v ∷ rest)) → HasParityOf player q

-- the span of a place; past the last one the priority and the end are 0
abbrev pub span_at : List Span → ℕ → Span
span_at spans i = slice_index_or spans i (record { priority = 0; end = 0 })

-- an edge leads from the place i to a place before the end of i
abbrev pub LeadsBefore : List Span → ℕ → ℕ → Type 0
LeadsBefore spans i j = j < (span_at spans i).end

-- If the place i is before its own end, then its priority is one of the player's. From the place i on and before its end, nothing
-- has a greater priority or a later end.
pub record IsNested (player : Player) (spans : List Span) (i : ℕ) : Type 0 where
  pub won : i < (span_at spans i).end → HasParityOf player (span_at spans i).priority
  pub lower : (j : ℕ) → i ≤ j → LeadsBefore spans i j → (span_at spans j).priority ≤ (span_at spans i).priority
  pub inner : (j : ℕ) → i ≤ j → LeadsBefore spans i j → (span_at spans j).end ≤ (span_at spans i).end

abbrev pub AreNested : Player → List Span → Type 0
AreNested player spans = (i : ℕ) → IsNested player spans i
