-- The faults of arrays. A fault is the first one: the lengths are checked, then one vertex after another, and of a vertex its priority,
-- its owner and its row.
use Rattle.std.specs.Prelude.{◌≡◌, ℕ, ◌+◌, ◌<◌, ◌≤◌, ◌⊎◌, List, length, All, slice_index}
use Rattle.pg_arena.specs.declared.limits.TheConstants.{MAX_PRIORITY, MAX_VERTICES, MAX_EDGES}
use Rattle.parsolve_c_csr.specs.declared.fault.GameFault.{GameFault}
use Rattle.parsolve_c_csr.specs.declared.fault.GameFault.TheVariants.{Lengths, NoVertex, TooManyVertices, TooManyEdges}
use Rattle.parsolve_c_csr.specs.declared.fault.GameFault.TheVariants.{PriorityTooLarge, BadOwner, BadStart, NoSuccessor, UnknownSuccessor}
use Rattle.parsolve_c_csr.specs.declared.fault.ArraysFault.{ArraysFault}
use Rattle.parsolve_c_csr.specs.declared.fault.ArraysFault.TheVariants.{OutOfMemory, Game, SolutionLengths, BadWinner, BadChoice}
use Rattle.parsolve_c_csr.specs.Games.{GameArrays, HaveLengths, HaveSizes, HasPlayer, HasRow, IsRow, SpellsGame, game_of, row}
use Rattle.parsolve_c_csr.specs.Solutions.{HaveSolutionLengths, IsChosen, HasNoChoice, solution_of}

-- v is a vertex, and the lengths and the vertices before it have no fault
pub record IsReached (a : GameArrays) (v : ℕ) : Type 0 where
  pub sizes : HaveSizes a
  pub within : v < length a.priorities
  pub before : (u : ℕ) → u < v → IsRow a u

-- the row of v ends before it starts, or past the end of the array
abbrev pub GoesAstray : GameArrays → ℕ → Type 0
GoesAstray a v =
    (slice_index a.starts (v + 1) < slice_index a.starts v) ⊎ (length a.successors < slice_index a.starts (v + 1))

-- why arrays spell no game: the first fault
abbrev pub IsFault : GameArrays → GameFault → Type 0
IsFault a Lengths = ¬ HaveLengths a
IsFault a NoVertex = HaveLengths a × (length a.priorities ≡ 0)
IsFault a TooManyVertices = HaveLengths a × (MAX_VERTICES < length a.priorities)
IsFault a TooManyEdges =
    HaveLengths a × (0 < length a.priorities) × (length a.priorities ≤ MAX_VERTICES) × (MAX_EDGES < length a.successors)
IsFault a (PriorityTooLarge v) = IsReached a v × (MAX_PRIORITY < slice_index a.priorities v)
IsFault a (BadOwner v) = IsReached a v × (slice_index a.priorities v ≤ MAX_PRIORITY) × (1 < slice_index a.owners v)
IsFault a (BadStart v) = IsReached a v × HasPlayer a v × GoesAstray a v
IsFault a (NoSuccessor v) = IsReached a v × HasPlayer a v × (slice_index a.starts (v + 1) ≤ length a.successors)
    × (slice_index a.starts v ≡ slice_index a.starts (v + 1))
IsFault a (UnknownSuccessor v) =
    IsReached a v × HasPlayer a v × HasRow a v × ¬ All (λ w. w < length a.priorities) (row a v)

-- why there is no game of arrays; memory can run out only if they spell one
abbrev pub RefusesGame : GameArrays → ArraysFault → Type 0
RefusesGame a OutOfMemory = SpellsGame a
RefusesGame a (Game fault) = IsFault a fault
RefusesGame a _ = ⊥

-- Why no solution is written: the first fault of the game, or the outputs' lengths. Memory can run out only if there is neither.
abbrev pub RefusesSolve : GameArrays → List ℕ → List ℕ → ArraysFault → Type 0
RefusesSolve a winners strategy OutOfMemory = SpellsGame a × HaveSolutionLengths a winners strategy
RefusesSolve a winners strategy (Game fault) = IsFault a fault
RefusesSolve a winners strategy SolutionLengths = SpellsGame a × ¬ HaveSolutionLengths a winners strategy
RefusesSolve a winners strategy _ = ⊥

-- the arrays spell a game, and the solution's arrays have the right lengths
pub record HaveSolution (a : GameArrays) (winners strategy : List ℕ) : Type 0 where
  pub game : SpellsGame a
  pub lengths : HaveSolutionLengths a winners strategy

-- the winner of v is neither 0 nor 1, and the winners before it are 0 or 1
pub record IsBadWinner (winners : List ℕ) (v : ℕ) : Type 0 where
  pub within : v < length winners
  pub bad : 1 < slice_index winners v
  pub before : (u : ℕ) → u < v → slice_index winners u ≤ 1

-- the winner of v owns it and chooses no successor, and there is no such vertex before it
pub record IsBadChoice (a : GameArrays) (winners strategy : List ℕ) (v : ℕ) : Type 0 where
  pub none : HasNoChoice (game_of a) (solution_of winners strategy) v
  pub before : (u : ℕ) → u < v → IsChosen (game_of a) (solution_of winners strategy) u

-- Why a solution isn't checked: the first fault of the game; then the solution's lengths; then its first bad winner; then its first bad
-- choice. Memory can run out only if the winners are players.
abbrev pub RefusesCheck : GameArrays → List ℕ → List ℕ → ArraysFault → Type 0
RefusesCheck a winners strategy OutOfMemory = HaveSolution a winners strategy × All (λ w. w ≤ 1) winners
RefusesCheck a winners strategy (Game fault) = IsFault a fault
RefusesCheck a winners strategy SolutionLengths = SpellsGame a × ¬ HaveSolutionLengths a winners strategy
RefusesCheck a winners strategy (BadWinner v) = HaveSolution a winners strategy × IsBadWinner winners v
RefusesCheck a winners strategy (BadChoice v) =
    HaveSolution a winners strategy × All (λ w. w ≤ 1) winners × IsBadChoice a winners strategy v
