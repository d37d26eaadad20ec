-- Verdicts on a circuit and a formula.
use Rattle.std.specs.Prelude.{ℕ, Bool, true, false, ◌<◌, List, length, map}
use Rattle.std.specs.declared.vec.Vec.{Vec}
use Rattle.std.specs.declared.alloc.Global.{Global}
use Rattle.pg_aiger.specs.Circuits.{Circuit}
use Rattle.pg_aiger.specs.Runs.{Valuation}
use Rattle.pg_ltl.specs.declared.formula.Prefix.TheVariants.{Not}
use Rattle.pg_ltl.specs.Formulas.{Formula, one, Satisfies}
use Rattle.pg_satisfies_check.specs.Satisfaction.{IsEndlessRun, IsSatisfied, run_word}
use Rattle.pg_aiger_netlist.specs.Steps.{spelt}
use Rattle.pg_means_look.specs.Lassos.{lasso}
use Rattle.pg_satisfies.specs.declared.verdict.SatisfactionVerdict.{SatisfactionVerdict}
use Rattle.pg_satisfies.specs.declared.verdict.SatisfactionVerdict.TheVariants.{Satisfied, Violated}

-- the formula, or its negation
abbrev pub asked : Bool → Formula → Formula
asked true f = f
asked false f = one Not f

-- The inputs are these letters, and then those from `back` on over and over. No endless run of the circuit on them satisfies the formula; a
-- circuit without a cycle has exactly one run.
pub record IsViolated (circuit : Circuit) (literals : List ℕ) (f : Formula) (letters : List ℕ) (back : ℕ) : Type 0 where
  pub comes_round : back < length letters
  pub fails : (run : ℕ → Valuation) → IsEndlessRun circuit (lasso letters back) run → ¬ Satisfies (run_word literals run) f 0

-- the letters of these rows of input values, the value of the first input the lowest bit
abbrev pub letters_of : List (Vec Bool Global) → List ℕ
letters_of rows = map (λ (row : Vec Bool Global). spelt row.items) rows

-- the verdict is right: every endless run of the circuit satisfies the formula, or the run on these inputs doesn't
abbrev pub SaysOf : Circuit → List ℕ → Formula → SatisfactionVerdict → Type 0
SaysOf circuit literals f Satisfied = IsSatisfied circuit literals f
SaysOf circuit literals f (Violated letters back) =
    IsViolated circuit literals f (letters_of letters.items) back

-- the verdict is yes
abbrev pub IsYes : SatisfactionVerdict → Type 0
IsYes Satisfied = Unit {0}
IsYes (Violated letters back) = ⊥
