-- The texts of faults.
use Rattle.std.specs.Prelude.{ℕ, List, ◌++◌, codes, decimal}
use Rattle.pg_arena.specs.declared.fault.ArenaFault.{ArenaFault}
use Rattle.pg_arena.specs.declared.fault.ArenaFault.TheVariants.{OutOfMemory, DuplicateVertex, NoSuccessor, UnknownSuccessor}
use Rattle.pg_arena.specs.declared.fault.ArenaFault.TheVariants.{TooManyVertices, TooManyEdges, PriorityTooLarge, NoVertex}

abbrev pub fault_text : ArenaFault → List ℕ
fault_text OutOfMemory = codes "out of memory"
fault_text (DuplicateVertex id) = codes "vertex " ++ (decimal id ++ codes " is defined twice")
fault_text (NoSuccessor id) = codes "vertex " ++ (decimal id ++ codes " has no successor")
fault_text (UnknownSuccessor id successor) =
    codes "vertex " ++ (decimal id ++ (codes " has successor " ++ (decimal successor ++ codes ", which no line defines")))
fault_text TooManyVertices = codes "more than 1048576 vertices"
fault_text TooManyEdges = codes "more than 8388608 edges"
fault_text (PriorityTooLarge id priority) =
    codes "vertex " ++ (decimal id ++ (codes " has priority " ++ (decimal priority ++ codes ", the limit is 65535")))
fault_text NoVertex = codes "no vertex"
