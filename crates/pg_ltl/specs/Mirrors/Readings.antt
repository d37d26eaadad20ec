-- Steps that may fail.
use Rattle.std.specs.Prelude.{◌≡◌, ℕ, ◌+◌, ◌<◌, ◌≤◌, List, length, get_or, take, Option, Some, None, Result, Ok, Err}
use Rattle.pg_ltl.specs.declared.token.FormulaToken.{FormulaToken}
use Rattle.pg_ltl.specs.Formulas.{Formula}
use Rattle.pg_ltl.specs.FormulaTexts.{AreTokensOf, BeginsOne, BeginsNone}
use Rattle.pg_ltl.specs.Mirrors.Run.{Kept, turn_at, steps_at, starting}
use Rattle.pg_ltl.specs.declared.reading.Misplaced.{Misplaced}
use Rattle.pg_ltl.specs.declared.reading.Misplaced.TheVariants.{Memory, At}

-- The function's result, seen through `view`, is what the reading gives, unless memory ran out.
abbrev pub Fails : {Y : Type 0} → Misplaced → Option Y → Type 0
Fails Memory read = Unit {0}
Fails (At place) read = read ≡ None

abbrev pub Gives : {X Y : Type 0} → (X → Y) → Result X Misplaced → Option Y → Type 0
Gives view (Ok x) read = read ≡ Some (view x)
Gives view (Err e) read = Fails e read

-- memory ran out, or the tokens spell no formula
abbrev pub IsMisread : List FormulaToken → Misplaced → Type 0
IsMisread ts Memory = Unit {0}
IsMisread ts (At place) = (f : Formula) → AreTokensOf ts f → ⊥

-- all tokens before this one can be read, and this one, if there is one, is out of place
pub record IsStuck (ts : List FormulaToken) (place : ℕ) : Type 0 where
  pub within : place ≤ length ts
  pub kept : Kept
  pub reached : steps_at starting (take place ts) ≡ Some kept
  pub stuck : (d : FormulaToken) → place < length ts → turn_at kept (get_or ts place d) ≡ None

abbrev pub StopsRun : List FormulaToken → Misplaced → Type 0
StopsRun ts Memory = Unit {0}
StopsRun ts (At place) = IsStuck ts place

-- the tokens before this one begin some formula, and with this one, if there is one, they begin none
pub record IsStopped (ts : List FormulaToken) (place : ℕ) : Type 0 where
  pub within : place ≤ length ts
  pub before : BeginsOne (take place ts)
  pub stuck : place < length ts → BeginsNone (take (place + 1) ts)

abbrev pub StopsTokens : List FormulaToken → Misplaced → Type 0
StopsTokens ts Memory = Unit {0}
StopsTokens ts (At place) = IsStopped ts place
