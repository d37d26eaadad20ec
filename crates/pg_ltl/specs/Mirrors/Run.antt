-- The state of the reader of tokens: the parts so far, what is waiting for an operand, and the operand just read.
use Rattle.std.specs.Prelude.{ℕ, Bool, true, false, nat_le, List, [], ◌∷◌, ◌++◌, length, reverse, Option, Some, None, if◌then◌else◌}
use Rattle.pg_ltl.specs.declared.formula.Prefix.{Prefix}
use Rattle.pg_ltl.specs.declared.formula.Infix.{Infix}
use Rattle.pg_ltl.specs.declared.formula.Infix.TheVariants.{Also}
use Rattle.pg_ltl.specs.declared.formula.FormulaNode.{FormulaNode}
use Rattle.pg_ltl.specs.declared.formula.FormulaNode.TheVariants as parts
use Rattle.pg_ltl.specs.declared.reading.Pending.{Pending}
use Rattle.pg_ltl.specs.declared.reading.Pending.TheVariants.{Paren, Ahead, Left}
use Rattle.pg_ltl.specs.declared.reading.Reading.{Reading}
use Rattle.pg_ltl.specs.declared.token.FormulaToken.{FormulaToken}
use Rattle.pg_ltl.specs.declared.token.FormulaToken.TheVariants as tokens
use Rattle.pg_ltl.specs.FormulaTexts.{strength, left_rank}

-- the innermost comes first
pub record Kept : Type 0 where
  pub nodes : List FormulaNode
  pub pending : List Pending
  pub operand : Option ℕ

abbrev pub kept : List FormulaNode → List Pending → Option ℕ → Kept
kept nodes pending operand = record { nodes = nodes; pending = reverse pending; operand = operand }

abbrev pub view : Reading → Kept
view r = kept r.nodes.items r.pending.items r.operand

abbrev pub ahead_of : Pending → Option Prefix
ahead_of (Ahead op) = Some op
ahead_of waiting = None

abbrev pub taking : ℕ → Pending → Option (Infix × ℕ)
taking bound (Left op other) = if nat_le bound (strength op) then Some (op, other) else None
taking bound waiting = None

unfoldable pub completed_at : List FormulaNode → List Pending → ℕ → Kept
completed_at nodes (Ahead op ∷ pending) place = completed_at (nodes ++ (parts.One op place ∷ [])) pending (length nodes)
completed_at nodes pending place = record { nodes = nodes; pending = pending; operand = Some place }

unfoldable pub reduced_at : ℕ → List FormulaNode → List Pending → ℕ → Kept
reduced_at bound nodes (Left op other ∷ pending) place =
    if nat_le bound (strength op) then reduced_at bound (nodes ++ (parts.Two op other place ∷ [])) pending (length nodes)
    else record { nodes = nodes; pending = Left op other ∷ pending; operand = Some place }
reduced_at bound nodes pending place = record { nodes = nodes; pending = pending; operand = Some place }

-- an operand that is a single new part
unfoldable pub operand_at : Kept → FormulaNode → Kept
operand_at r node = completed_at (r.nodes ++ (node ∷ [])) r.pending (length r.nodes)

-- one more is waiting
abbrev pub opened : Kept → Pending → Kept
opened r waiting = record { nodes = r.nodes; pending = waiting ∷ r.pending; operand = None }

unfoldable pub due_turn : Kept → FormulaToken → Option Kept
due_turn r (tokens.Proposition p) = Some (operand_at r (parts.Proposition p))
due_turn r (tokens.Constant value) = Some (operand_at r (parts.Constant value))
due_turn r (tokens.Before op) = Some (opened r (Ahead op))
due_turn r tokens.LeftParen = Some (opened r Paren)
due_turn r t = None

abbrev pub may_wait : List Pending → Infix → Bool
may_wait (Paren ∷ pending) Also = false
may_wait pending op = true

abbrev pub between_with : Infix → List FormulaNode → List Pending → Option ℕ → Option Kept
between_with op nodes pending None = None
between_with op nodes pending (Some place) =
    if may_wait pending op then Some (record { nodes = nodes; pending = Left op place ∷ pending; operand = None }) else None

unfoldable pub between_at : Infix → Kept → Option Kept
between_at op r = between_with op r.nodes r.pending r.operand

abbrev pub closed_with : List FormulaNode → List Pending → Option ℕ → Option Kept
closed_with nodes (Paren ∷ pending) (Some place) = Some (completed_at (nodes ++ (parts.Bracket place ∷ [])) pending (length nodes))
closed_with nodes pending place = None

unfoldable pub closed_at : Kept → Option Kept
closed_at r = closed_with r.nodes r.pending r.operand

unfoldable pub over_turn : Kept → ℕ → FormulaToken → Option Kept
over_turn r place (tokens.Between op) = between_at op (reduced_at (left_rank op) r.nodes r.pending place)
over_turn r place tokens.RightParen = closed_at (reduced_at 1 r.nodes r.pending place)
over_turn r place t = None

abbrev pub turn_with : Kept → Option ℕ → FormulaToken → Option Kept
turn_with r None t = due_turn r t
turn_with r (Some place) t = over_turn r place t

unfoldable pub turn_at : Kept → FormulaToken → Option Kept
turn_at r t = turn_with r r.operand t

-- the parts, and the place of the whole formula
abbrev pub whole_with : List FormulaNode → List Pending → Option ℕ → Option (List FormulaNode × ℕ)
whole_with nodes [] (Some place) = Some (nodes, place)
whole_with nodes pending place = None

unfoldable pub whole_at : Kept → Option (List FormulaNode × ℕ)
whole_at r = whole_with r.nodes r.pending r.operand

abbrev pub also_of : Pending → Option ℕ
also_of (Left Also place) = Some place
also_of waiting = None

-- the formula before a `;`, if that is all that is waiting
abbrev pub ended_place : List Pending → Option ℕ
ended_place [] = None
ended_place (waiting ∷ []) = also_of waiting
ended_place (waiting ∷ other ∷ pending) = None

abbrev pub with_nodes : List FormulaNode → Option ℕ → Option (List FormulaNode × ℕ)
with_nodes nodes None = None
with_nodes nodes (Some place) = Some (nodes, place)

abbrev pub finish_with : Kept → Option ℕ → Option (List FormulaNode × ℕ)
finish_with r None = with_nodes r.nodes (ended_place r.pending)
finish_with r (Some place) = whole_at (reduced_at 0 r.nodes r.pending place)

unfoldable pub finish_at : Kept → Option (List FormulaNode × ℕ)
finish_at r = finish_with r r.operand

abbrev pub steps_if : (Kept → Option Kept) → Option Kept → Option Kept
steps_if go None = None
steps_if go (Some r) = go r

unfoldable pub steps_at : Kept → List FormulaToken → Option Kept
steps_at r [] = Some r
steps_at r (t ∷ ts) = steps_if (λ s. steps_at s ts) (turn_at r t)

abbrev pub run_if : (Kept → Option (List FormulaNode × ℕ)) → Option Kept → Option (List FormulaNode × ℕ)
run_if go None = None
run_if go (Some r) = go r

unfoldable pub run_at : Kept → List FormulaToken → Option (List FormulaNode × ℕ)
run_at r [] = finish_at r
run_at r (t ∷ ts) = run_if (λ s. run_at s ts) (turn_at r t)

abbrev pub starting : Kept
starting = record { nodes = []; pending = []; operand = None }

unfoldable pub parse_at : List FormulaToken → Option (List FormulaNode × ℕ)
parse_at ts = run_at starting ts
