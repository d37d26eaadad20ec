-- A game as it is given, a line for each vertex, and the game that the lines make.
use Rattle.std.specs.Prelude.{◌≡◌, ℕ, ◌+◌, ◌≤◌, Bool, false, List, [], ◌∷◌, ◌++◌, length, map, Option, Some, None, option_copied, Result}
use Rattle.std.specs.Prelude.{Ok, Err, ◌==◌, nat_lt, nat_le, if◌then◌else◌, Contains}
use Rattle.std.specs.Borrow.{Bor}
use Rattle.std.specs.List.{list_any}
use Rattle.std.specs.List.Sorted.{IsPermutation}
use Rattle.pg_list_lemmas.specs.Rising.{rising}
use Rattle.pg_arena.specs.declared.player.Player.{Player}
use Rattle.pg_arena.specs.declared.fault.ArenaFault.{ArenaFault}
use Rattle.pg_arena.specs.declared.fault.ArenaFault.TheVariants.{OutOfMemory, DuplicateVertex, NoSuccessor, UnknownSuccessor}
use Rattle.pg_arena.specs.declared.fault.ArenaFault.TheVariants.{TooManyVertices, TooManyEdges, PriorityTooLarge, NoVertex}
use Rattle.pg_arena.specs.declared.limits.TheConstants.{MAX_PRIORITY, MAX_VERTICES, MAX_EDGES}
use Rattle.pg_arena.specs.Games.{GameVertex, IsGame, identifier, edge_count}

-- A line says the same of a vertex as a game, except that it gives a successor by its identifier.
abbrev pub Line : Type 0
Line = GameVertex

-- the line of these parts
abbrev pub line_with : ℕ → ℕ → Player → List ℕ → Option (Bor (List ℕ)) → Line
line_with identifier priority owner successors name =
    record { identifier = identifier; priority = priority; owner = owner; successors = successors; name = option_copied name }

-- a repeated successor counts once
abbrev pub counted : Line → Line
counted line = record line { successors = rising line.successors }

-- some line has this identifier
abbrev pub is_named : List Line → ℕ → Bool
is_named lines n = list_any (λ line. n == line.identifier) lines

-- the first reason why a line may not follow these lines, if there is one
abbrev pub add_fault : List Line → Line → Option ArenaFault
add_fault lines line =
    if nat_lt MAX_PRIORITY line.priority then Some (PriorityTooLarge line.identifier line.priority)
    else (if length line.successors == 0 then Some (NoSuccessor line.identifier)
    else (if is_named lines line.identifier then Some (DuplicateVertex line.identifier)
    else (if nat_le MAX_VERTICES (length lines) then Some TooManyVertices
    else (if nat_lt MAX_EDGES (edge_count lines + length line.successors) then Some TooManyEdges
    else None))))

-- the call succeeds if there is no reason against it, and otherwise fails with the reason; memory may run out
abbrev pub Answers : {T : Type 0} → Result T ArenaFault → Option ArenaFault → Type 0
Answers (Ok x) reason = reason ≡ None
Answers (Err OutOfMemory) reason = Unit {0}
Answers (Err fault) reason = reason ≡ Some fault

-- these lines may follow those, one after another
abbrev pub Accepts : List Line → List Line → Type 0
Accepts before [] = Unit {0}
Accepts before (line ∷ lines) = (add_fault before (counted line) ≡ None) × Accepts (before ++ counted line ∷ []) lines

-- a vertex of a game as a line
abbrev pub line_of : List GameVertex → GameVertex → Line
line_of game x = record x { successors = map (identifier game) x.successors }

abbrev pub lines_of : List GameVertex → List Line
lines_of game = map (line_of game) game

-- the game of these lines: its vertices are the lines in some order
pub record IsGameOf (lines : List Line) (game : List GameVertex) : Type 0 where
  pub well : IsGame game
  pub same : IsPermutation lines (lines_of game)

-- the line of an identifier has a successor that no line defines
pub record IsUnknown (lines : List Line) (identifier successor : ℕ) : Type 0 where
  pub line : Line
  pub given : Contains lines line
  pub of : line.identifier ≡ identifier
  pub leads : Contains line.successors successor
  pub undefined : is_named lines successor ≡ false

-- the successor that no line defines: the least one of the least identifier that has one
pub record IsLeastUnknown (lines : List Line) (identifier successor : ℕ) : Type 0 where
  pub unknown : IsUnknown lines identifier successor
  pub least_identifier : (other any : ℕ) → IsUnknown lines other any → identifier ≤ other
  pub least_successor : (other : ℕ) → IsUnknown lines identifier other → successor ≤ other

-- why lines make no game; memory may run out
abbrev pub FinishFails : List Line → ArenaFault → Type 0
FinishFails lines OutOfMemory = Unit {0}
FinishFails lines NoVertex = lines ≡ []
FinishFails lines (UnknownSuccessor identifier successor) = IsLeastUnknown lines identifier successor
FinishFails lines fault = ⊥
