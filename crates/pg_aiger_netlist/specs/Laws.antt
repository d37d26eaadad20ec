-- The laws, as statements.
use Rattle.std.specs.Prelude.{ℕ}
use Rattle.pg_aiger.specs.Circuits.{Circuit}
use Rattle.pg_aiger_netlist.specs.Netlists.{IsAcyclic, HasOneRun}

-- a circuit without a cycle has exactly one run for each endless input word
abbrev pub OneRun : Type 0
OneRun = (circuit : Circuit) (input : ℕ → ℕ) → IsAcyclic circuit → HasOneRun circuit input
