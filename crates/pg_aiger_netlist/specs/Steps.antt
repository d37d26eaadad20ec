-- Steps of a circuit, 64 at once: a word for each variable has the variable's value in lane i at bit i.
use Rattle.std.specs.Prelude.{◌≡◌, ℕ, ◌+◌, ◌*◌, Bool, List, [], ◌∷◌, slice_index_or, Contains, if◌then◌else◌}
use Rattle.pg_aiger.specs.Circuits.{Circuit}
use Rattle.pg_aiger.specs.Runs.{Valuation, IsStepAt, bit}
use Rattle.pg_aiger_netlist.specs.Netlists.{known_by, definitions}

-- the number with these bits, the lowest first
abbrev pub spelt : List Bool → ℕ
spelt [] = 0
spelt (b ∷ rest) = (if b then 1 else 0) + 2 * spelt rest

-- In the step in which the latches have the bits of the state and the inputs the bits of the letter, the lane has the values of all
-- variables that are defined.
abbrev pub AreValues : Circuit → ℕ → ℕ → ℕ → List ℕ → Type 0
AreValues circuit state letter lane words =
    (v : Valuation) → IsStepAt circuit state letter v → (x : ℕ) → Contains (known_by (definitions circuit)) x
    → bit (slice_index_or words x 0) lane ≡ v x
