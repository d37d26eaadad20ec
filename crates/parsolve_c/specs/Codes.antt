-- The codes of faults.
use Rattle.std.specs.Prelude.{◌≡◌, ℕ, Option, Some, None, unwrap_or}
use Rattle.parsolve_c_csr.specs.declared.fault.GameFault.{GameFault}
use Rattle.parsolve_c_csr.specs.declared.fault.GameFault.TheVariants.{Lengths, NoVertex, TooManyVertices, TooManyEdges}
use Rattle.parsolve_c_csr.specs.declared.fault.GameFault.TheVariants.{PriorityTooLarge, BadOwner, BadStart, NoSuccessor, UnknownSuccessor}
use Rattle.parsolve_c_csr.specs.declared.fault.ArraysFault.{ArraysFault}
use Rattle.parsolve_c_csr.specs.declared.fault.ArraysFault.TheVariants.{OutOfMemory, Game, SolutionLengths, BadWinner, BadChoice}
use Rattle.parsolve_c.specs.declared.code.TheConstants.{PARSOLVE_OUT_OF_MEMORY, PARSOLVE_LENGTHS, PARSOLVE_NO_VERTEX}
use Rattle.parsolve_c.specs.declared.code.TheConstants.{PARSOLVE_TOO_MANY_VERTICES, PARSOLVE_TOO_MANY_EDGES, PARSOLVE_PRIORITY}
use Rattle.parsolve_c.specs.declared.code.TheConstants.{PARSOLVE_OWNER}
use Rattle.parsolve_c.specs.declared.code.TheConstants.{PARSOLVE_START, PARSOLVE_NO_SUCCESSOR, PARSOLVE_SUCCESSOR}
use Rattle.parsolve_c.specs.declared.code.TheConstants.{PARSOLVE_SOLUTION_LENGTHS, PARSOLVE_WINNER, PARSOLVE_CHOICE}

abbrev pub game_code : GameFault → ℕ
game_code Lengths = PARSOLVE_LENGTHS
game_code NoVertex = PARSOLVE_NO_VERTEX
game_code TooManyVertices = PARSOLVE_TOO_MANY_VERTICES
game_code TooManyEdges = PARSOLVE_TOO_MANY_EDGES
game_code (PriorityTooLarge v) = PARSOLVE_PRIORITY
game_code (BadOwner v) = PARSOLVE_OWNER
game_code (BadStart v) = PARSOLVE_START
game_code (NoSuccessor v) = PARSOLVE_NO_SUCCESSOR
game_code (UnknownSuccessor v) = PARSOLVE_SUCCESSOR

abbrev pub code_of : ArraysFault → ℕ
code_of OutOfMemory = PARSOLVE_OUT_OF_MEMORY
code_of (Game fault) = game_code fault
code_of SolutionLengths = PARSOLVE_SOLUTION_LENGTHS
code_of (BadWinner v) = PARSOLVE_WINNER
code_of (BadChoice v) = PARSOLVE_CHOICE

abbrev pub game_vertex : GameFault → Option ℕ
game_vertex (PriorityTooLarge v) = Some v
game_vertex (BadOwner v) = Some v
game_vertex (BadStart v) = Some v
game_vertex (NoSuccessor v) = Some v
game_vertex (UnknownSuccessor v) = Some v
game_vertex _ = None

-- the vertex that a fault names
abbrev pub vertex_of : ArraysFault → Option ℕ
vertex_of (Game fault) = game_vertex fault
vertex_of (BadWinner v) = Some v
vertex_of (BadChoice v) = Some v
vertex_of _ = None

-- no other fault has the same code and the same vertex, whatever number was in the place of the vertex before
abbrev pub TellsFaultsApart : Type 0
TellsFaultsApart = (f g : ArraysFault) (old : ℕ) → code_of f ≡ code_of g
    → unwrap_or (vertex_of f) old ≡ unwrap_or (vertex_of g) old → f ≡ g

-- The code belongs to a fault with which the call is refused. The number is the vertex that the fault names; if it names none, the number
-- is as it was.
pub record IsTold (Refuses : ArraysFault → Type 0) (code old new : ℕ) : Type 0 where
  pub fault : ArraysFault
  pub refuses : Refuses fault
  pub coded : code ≡ code_of fault
  pub vertex : new ≡ unwrap_or (vertex_of fault) old
