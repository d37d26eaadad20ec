-- The laws, as statements.
use Rattle.std.specs.Prelude.{ℕ, ◌↔◌, List}
use Rattle.pg_aiger.specs.Circuits.{Circuit}
use Rattle.pg_aiger_netlist.specs.Netlists.{IsAcyclic}
use Rattle.pg_ltl.specs.Formulas.{Formula}
use Rattle.pg_satisfies_check.specs.Satisfaction.{IsSatisfied}
use Rattle.pg_satisfies.specs.Verdicts.{SaysOf, IsYes}
use Rattle.pg_satisfies.specs.declared.verdict.SatisfactionVerdict.{SatisfactionVerdict}

-- a right verdict says yes exactly if every endless run of the circuit satisfies the formula
abbrev pub SatisfiesDecides : Type 0
SatisfiesDecides =
    (circuit : Circuit) (literals : List ℕ) (f : Formula) (verdict : SatisfactionVerdict) → IsAcyclic circuit
    → SaysOf circuit literals f verdict → IsYes verdict ↔ IsSatisfied circuit literals f
