-- Marks of the variables that hear the inputs.
use Rattle.std.specs.Prelude.{◌≡◌, ℕ, true, false, List, Bool, Contains, map}
use Rattle.pg_aiger.specs.Circuits.{Circuit}
use Rattle.pg_aiger.specs.Runs.{Valuation, IsStepAt}
use Rattle.pg_aiger_netlist.specs.Netlists.{variable}
use Rattle.pg_aiger_netlist.specs.Hearing.{Hears}
use Rattle.pg_aiger_netlist.specs.Mirrors.Marks.{marked, AreMarked}

-- the marked variables are those of the inputs
abbrev pub AreInputs : List ℕ → List Bool → Type 0
AreInputs inputs row = AreMarked row (map variable inputs)

-- the variable has one value in all steps that begin with the same latches
abbrev pub IsDeaf : Circuit → ℕ → Type 0
IsDeaf circuit x =
    (state first second : ℕ) (u v : Valuation) → IsStepAt circuit state first u → IsStepAt circuit state second v → u x ≡ v x

-- of these variables the marked ones hear, and the others are deaf
pub record AreHeard (circuit : Circuit) (known : List ℕ) (row : List Bool) : Type 0 where
  pub hear : (x : ℕ) → Contains known x → marked row x ≡ true → Hears circuit x
  pub deaf : (x : ℕ) → Contains known x → marked row x ≡ false → IsDeaf circuit x
