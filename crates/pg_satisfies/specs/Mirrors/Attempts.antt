-- What an attempt at a promise shows.
use Rattle.std.specs.Prelude.{◌≡◌, ℕ, ◌+◌, ◌<◌, List, length, slice_index_or}
use Rattle.pg_aiger.specs.Circuits.{Circuit}
use Rattle.pg_aiger.specs.Runs.{Valuation}
use Rattle.pg_ltl.specs.declared.normal.NormalNode.{NormalNode}
use Rattle.pg_ltl.specs.NormalForms.{NormalForm, Holds}
use Rattle.pg_ltl.specs.Mirrors.Nodes.{normal_in}
use Rattle.pg_satisfies_check.specs.Satisfaction.{IsEndlessRun, IsUnsatisfied, run_word}
use Rattle.pg_means_look.specs.Lassos.{lasso}
use Rattle.pg_satisfies.specs.Verdicts.{letters_of}
use Rattle.pg_satisfies.specs.declared.refuting.AttemptOutcome.{AttemptOutcome}
use Rattle.pg_satisfies.specs.declared.refuting.AttemptOutcome.TheVariants.{Refuted, Violated, GivenUp, Unshown}

-- on this lasso of inputs, the form holds on each endless run of the circuit
pub record HoldsOn (circuit : Circuit) (literals : List ℕ) (f : NormalForm) (letters : List ℕ) (back : ℕ) : Type 0 where
  pub comes_round : back < length letters
  pub holds : (run : ℕ → Valuation) → IsEndlessRun circuit (lasso letters back) run → Holds (run_word literals run) f 0

-- the form at this place holds on no endless run; or it holds on those on a lasso
abbrev pub Shows : Circuit → List ℕ → List NormalNode → ℕ → AttemptOutcome → Type 0
Shows circuit literals nodes place Refuted = IsUnsatisfied circuit literals (normal_in nodes place)
Shows circuit literals nodes place (Violated letters back) = HoldsOn circuit literals (normal_in nodes place) (letters_of letters.items) back
Shows circuit literals nodes place GivenUp = Unit {0}
Shows circuit literals nodes place Unshown = Unit {0}

-- some try of a promise holds on no endless run; or the last try holds on those on a lasso
abbrev pub ShowsAll : Circuit → List ℕ → List NormalNode → List ℕ → AttemptOutcome → Type 0
ShowsAll circuit literals nodes tries Refuted =
    (k : ℕ) × (k < length tries) × IsUnsatisfied circuit literals (normal_in nodes (slice_index_or tries k 0))
ShowsAll circuit literals nodes tries (Violated letters back) =
    (k : ℕ) × (k + 1 ≡ length tries)
    × HoldsOn circuit literals (normal_in nodes (slice_index_or tries k 0)) (letters_of letters.items) back
ShowsAll circuit literals nodes tries GivenUp = Unit {0}
ShowsAll circuit literals nodes tries Unshown = Unit {0}
