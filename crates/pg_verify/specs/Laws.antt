-- The laws, as statements.
use Rattle.std.specs.Prelude.{◌↔◌}
use Rattle.pg_hoa_automaton.specs.Automata.{Automaton}
use Rattle.pg_hoa_automaton.specs.Formulas.{Formula}
use Rattle.pg_aiger.specs.Circuits.{Circuit}
use Rattle.pg_aiger_netlist.specs.Netlists.{IsAcyclic}
use Rattle.pg_verify.specs.declared.verdict.CircuitVerdict.{CircuitVerdict}
use Rattle.pg_verify.specs.Verdicts.{IsAcceptance, IsCorrect, Says}

-- a right verdict accepts exactly the circuits whose every run is accepted
abbrev pub VerdictsDecide : Type 0
VerdictsDecide =
    (a : Automaton) (condition : Formula) (circuit : Circuit) (verdict : CircuitVerdict) → IsAcyclic circuit
    → Says a condition circuit verdict → IsAcceptance verdict ↔ IsCorrect a condition circuit
