-- The reader of tokens, with formulas where the code keeps places.
use Rattle.std.specs.Prelude.{ℕ, Bool, true, false, nat_le, List, [], ◌∷◌, Option, Some, None, if◌then◌else◌}
use Rattle.pg_ltl.specs.declared.formula.Prefix.{Prefix}
use Rattle.pg_ltl.specs.declared.formula.Infix.{Infix}
use Rattle.pg_ltl.specs.declared.formula.Infix.TheVariants.{Also}
use Rattle.pg_ltl.specs.declared.token.FormulaToken.{FormulaToken}
use Rattle.pg_ltl.specs.declared.token.FormulaToken.TheVariants as tokens
use Rattle.pg_ltl.specs.Formulas.{Formula, constant, proposition, bracket, one, two}
use Rattle.pg_ltl.specs.FormulaTexts.{strength, left_rank}

-- what is waiting for an operand: a bracket, a prefix operator, or an infix operator with its left operand
pub data Pending : Type 0 where
  paren : Pending
  ahead : Prefix → Pending
  left : Infix → Formula → Pending

-- either an operand is due, or a formula was just read; the innermost of what is waiting comes first
pub data State : Type 0 where
  due : List Pending → State
  over : List Pending → Formula → State

abbrev pub completes : List Pending → Formula → State
completes (ahead op ∷ stack) f = completes stack (one op f)
completes stack f = over stack f

-- operators that bind at least as strongly as `bound` take their right operands
abbrev pub reduces : ℕ → List Pending → Formula → State
reduces bound (left op f ∷ stack) g = if nat_le bound (strength op) then reduces bound stack (two op f g) else over (left op f ∷ stack) g
reduces bound stack f = over stack f

-- a `;` may not stand inside brackets
abbrev pub may_stand : List Pending → Infix → Bool
may_stand (paren ∷ stack) Also = false
may_stand stack op = true

abbrev pub between : Infix → State → Option State
between op (due stack) = None
between op (over stack f) = if may_stand stack op then Some (due (left op f ∷ stack)) else None

abbrev pub closed : State → Option State
closed (over (paren ∷ stack) f) = Some (completes stack (bracket f))
closed s = None

abbrev pub step : State → FormulaToken → Option State
step (due stack) (tokens.Proposition p) = Some (completes stack (proposition p))
step (due stack) (tokens.Constant value) = Some (completes stack (constant value))
step (due stack) (tokens.Before op) = Some (due (ahead op ∷ stack))
step (due stack) tokens.LeftParen = Some (due (paren ∷ stack))
step (over stack f) (tokens.Between op) = between op (reduces (left_rank op) stack f)
step (over stack f) tokens.RightParen = closed (reduces 1 stack f)
step s t = None

abbrev pub whole : State → Option Formula
whole (over [] f) = Some f
whole s = None

-- the formula at the end of the tokens, possibly after a `;`
abbrev pub finish : State → Option Formula
finish (over stack f) = whole (reduces 0 stack f)
finish (due (left Also f ∷ [])) = Some f
finish (due stack) = None

abbrev pub steps_if : (State → Option State) → Option State → Option State
steps_if go None = None
steps_if go (Some s) = go s

abbrev pub steps : State → List FormulaToken → Option State
steps s [] = Some s
steps s (t ∷ ts) = steps_if (λ r. steps r ts) (step s t)

abbrev pub run_if : (State → Option Formula) → Option State → Option Formula
run_if go None = None
run_if go (Some s) = go s

abbrev pub run : State → List FormulaToken → Option Formula
run s [] = finish s
run s (t ∷ ts) = run_if (λ r. run r ts) (step s t)

abbrev pub parse : List FormulaToken → Option Formula
parse ts = run (due []) ts
