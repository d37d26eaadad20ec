-- The text of a verdict.
use Rattle.std.specs.Prelude.{ℕ, Bool, List, ◌++◌, take, drop, codes, if◌then◌else◌}
use Rattle.std.specs.List.{flat_map}
use Rattle.std.specs.declared.vec.Vec.{Vec}
use Rattle.std.specs.declared.alloc.Global.{Global}
use Rattle.pg_satisfies.specs.declared.verdict.SatisfactionVerdict.{SatisfactionVerdict}
use Rattle.pg_satisfies.specs.declared.verdict.SatisfactionVerdict.TheVariants.{Satisfied, Violated}

abbrev pub bit_text : Bool → List ℕ
bit_text value = if value then codes "1" else codes "0"

-- a line with the value of each input in a step
abbrev pub row_line : List Bool → List ℕ
row_line row = flat_map bit_text row ++ codes "\n"

abbrev pub row_lines : List (Vec Bool Global) → List ℕ
row_lines rows = flat_map (λ row. row_line row.items) rows

-- the line for a circuit that passes
abbrev pub satisfied_line : Bool → List ℕ
satisfied_line environment = if environment then codes "REFUTES\n" else codes "ACCEPTED\n"

-- the line for a circuit that doesn't pass
abbrev pub violated_line : Bool → List ℕ
violated_line environment = if environment then codes "FAILS\n" else codes "REJECTED\n"

-- `ACCEPTED`; or `REJECTED`, the lines of a run's inputs, a line `loop`, and the lines that repeat. For a circuit that plays the environment
-- `REFUTES` stands in place of `ACCEPTED`, and `FAILS` in place of `REJECTED`.
abbrev pub verdict_text : Bool → SatisfactionVerdict → List ℕ
verdict_text environment Satisfied = satisfied_line environment
verdict_text environment (Violated rows back) =
    violated_line environment ++ (row_lines (take back rows.items) ++ (codes "loop\n" ++ row_lines (drop back rows.items)))
