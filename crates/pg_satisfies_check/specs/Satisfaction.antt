-- Which circuits satisfy a formula.
use Rattle.std.specs.Prelude.{ℕ, Bool, List, All, Contains, slice_index_or}
use Rattle.pg_aiger.specs.Circuits.{Circuit}
use Rattle.pg_aiger.specs.Runs.{Valuation, value, IsRun}
use Rattle.pg_ltl.specs.Formulas.{Formula, Satisfies}
use Rattle.pg_ltl.specs.NormalForms.{NormalForm, Holds}

-- a valuation for each step of an endless run
abbrev pub IsEndlessRun : Circuit → (ℕ → ℕ) → (ℕ → Valuation) → Type 0
IsEndlessRun circuit input run = (count : ℕ) → IsRun circuit input count run

-- A proposition holds in a step where its literal is true. A proposition past the end of the list has literal 0, which is never true.
abbrev pub holds_in : List ℕ → Valuation → ℕ → Bool
holds_in literals v p = value v (slice_index_or literals p 0)

-- the word that a run makes: which propositions hold at each step
abbrev pub run_word : List ℕ → (ℕ → Valuation) → ℕ → ℕ → Bool
run_word literals run t = holds_in literals (run t)

-- under each input, each endless run of the circuit satisfies the formula from its first step on
abbrev pub IsSatisfied : Circuit → List ℕ → Formula → Type 0
IsSatisfied circuit literals f =
    (input : ℕ → ℕ) (run : ℕ → Valuation) → IsEndlessRun circuit input run → Satisfies (run_word literals run) f 0

-- under no input the normal form holds on an endless run of the circuit
abbrev pub IsUnsatisfied : Circuit → List ℕ → NormalForm → Type 0
IsUnsatisfied circuit literals f =
    (input : ℕ → ℕ) (run : ℕ → Valuation) → IsEndlessRun circuit input run → ¬ Holds (run_word literals run) f 0

-- Each gate and each latch of the part is one of the whole's. So each run of the whole is one of the part, except for inputs and outputs.
pub record IsPartOf (part whole : Circuit) : Type 0 where
  pub gates : All (Contains whole.gates) part.gates
  pub latches : All (Contains whole.latches) part.latches
