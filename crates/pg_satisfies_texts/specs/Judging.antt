-- The verdict on the circuit that a text spells and the formula that another text spells.
use Rattle.std.specs.Prelude.{ℕ, Bool, not, List}
use Rattle.pg_aiger.specs.Circuits.{Circuit}
use Rattle.pg_aiger.specs.CircuitText.{Symbol}
use Rattle.pg_aiger_netlist.specs.Netlists.{IsAcyclic, IsFaultOf}
use Rattle.pg_aiger_reader.specs.Texts.{IsRead}
use Rattle.pg_aiger_reader.specs.Faults as reader
use Rattle.pg_ltl.specs.Formulas.{Formula}
use Rattle.pg_ltl.specs.Texts as ltl
use Rattle.pg_satisfies.specs.Verdicts.{SaysOf, asked}
use Rattle.pg_satisfies.specs.declared.verdict.SatisfactionVerdict.{SatisfactionVerdict}
use Rattle.pg_satisfies.specs.declared.fault.SatisfiesFault.TheVariants.{OutOfMemory}
use Rattle.pg_satisfies_texts.specs.Names.{AreMeant, IsNameFault}
use Rattle.pg_satisfies_texts.specs.declared.fault.SatisfyFault.{SatisfyFault}
use Rattle.pg_satisfies_texts.specs.declared.fault.SatisfyFault.TheVariants.{Names, Netlist, Satisfies}
use Rattle.pg_satisfies_texts.specs.declared.fault.SatisfyFault.TheVariants as faults

-- the first text spells the formula, whose propositions have these names, and the second the circuit with these symbols
pub record ArePaired (first second : List ℕ) (names : List (List ℕ)) (f : Formula) (circuit : Circuit) (symbols : List Symbol) : Type 0 where
  pub spelt : ltl.Spelt first names f
  pub read : IsRead second circuit symbols

-- The texts spell a formula and a circuit, and each name of the formula means the literal at its place. The verdict is true for the circuit
-- and the formula, or, if the circuit plays the environment, the formula's negation.
pub record IsJudged (first second : List ℕ) (environment : Bool) (verdict : SatisfactionVerdict) : Type 0 where
  pub names : List (List ℕ)
  pub formula : Formula
  pub circuit : Circuit
  pub symbols : List Symbol
  pub literals : List ℕ
  pub paired : ArePaired first second names formula circuit symbols
  pub meant : AreMeant circuit symbols names literals
  pub acyclic : IsAcyclic circuit
  pub says : SaysOf circuit literals (asked (not environment) formula) verdict

-- ---- what is refused

-- the texts spell a formula with these names and a circuit with these symbols, and P holds for them
abbrev pub ArePair : List ℕ → List ℕ → (List (List ℕ) → Circuit → List Symbol → Type 0) → Type 0
ArePair first second P =
    (names : List (List ℕ)) × (f : Formula) × (circuit : Circuit) × (symbols : List Symbol) × ArePaired first second names f circuit symbols
    × P names circuit symbols

-- the texts spell a formula and a circuit, each name of the formula means a literal, and P holds for the circuit
abbrev pub AreMatched : List ℕ → List ℕ → (Circuit → Type 0) → Type 0
AreMatched first second P =
    ArePair first second (λ names circuit symbols. ((literals : List ℕ) × AreMeant circuit symbols names literals) × P circuit)

-- Why two texts have no verdict: the first spells no formula; it spells one, but the second spells no circuit; a name of the formula means
-- no literal of the circuit; each does, but the circuit contradicts itself or has a cycle; or it doesn't, but no verdict was found. Memory
-- may run out on any text.
abbrev pub Refuses : List ℕ → List ℕ → SatisfyFault → Type 0
Refuses first second (faults.Formula fault) = ltl.IsRefused first fault
Refuses first second (faults.Circuit fault) = ((names : List (List ℕ)) × (f : Formula) × ltl.Spelt first names f) × reader.Refuses second fault
Refuses first second (Names fault) = ArePair first second (λ names circuit symbols. IsNameFault circuit symbols names fault)
Refuses first second (Netlist fault) = AreMatched first second (λ circuit. IsFaultOf circuit fault)
Refuses first second (Satisfies OutOfMemory) = Unit {0}
Refuses first second (Satisfies fault) = AreMatched first second IsAcyclic
