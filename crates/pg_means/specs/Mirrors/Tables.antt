-- Tables of a completed automaton.
use Rattle.std.specs.Prelude.{◌≡◌, ℕ, ◌/◌, ◌%◌, ◌<◌, List, length, nat_lt, if◌then◌else◌, Option, None}
use Rattle.pg_hoa_automaton.specs.Automata.{Step, Automaton, letters, next}
use Rattle.pg_means_look.specs.declared.automaton.ParityEdge.{ParityEdge}
use Rattle.pg_means_look.specs.Mirrors.Tables.{edge_at}
use Rattle.pg_means.specs.Priorities.{target_code, step_priority}

-- the step at a letter, or none after the last state
abbrev pub step_of : Automaton → ℕ → ℕ → Option Step
step_of a state letter = if nat_lt state a.states then next a state letter else None

pub record IsEdgeOf (a : Automaton) (step : Option Step) (edge : ParityEdge) : Type 0 where
  pub target : edge.target ≡ target_code a step
  pub priority : edge.priority ≡ step_priority a step

-- the edges row by row, with `width` letters to a row
abbrev pub AreEdges : Automaton → ℕ → List ParityEdge → Type 0
AreEdges a width edges =
    (place : ℕ) → place < length edges → IsEdgeOf a (step_of a (place / width) (place % width % letters a)) (edge_at edges place)
