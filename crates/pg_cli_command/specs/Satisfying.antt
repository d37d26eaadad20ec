-- What `verify --ltl` prints.
use Rattle.std.specs.Prelude.{◌≡◌, ◌↔◌, ℕ, Bool, not, List}
use Rattle.pg_ltl.specs.Formulas.{Formula}
use Rattle.pg_aiger.specs.Circuits.{Circuit}
use Rattle.pg_aiger.specs.CircuitText.{Symbol}
use Rattle.pg_aiger_netlist.specs.Netlists.{HasOneRun}
use Rattle.pg_satisfies_check.specs.Satisfaction.{IsSatisfied}
use Rattle.pg_satisfies.specs.Verdicts.{asked}
use Rattle.pg_satisfies.specs.declared.verdict.SatisfactionVerdict.{SatisfactionVerdict}
use Rattle.pg_satisfies_texts.specs.Names.{AreMeant}
use Rattle.pg_satisfies_texts.specs.Judging.{ArePaired, IsJudged, Refuses}
use Rattle.pg_satisfies_texts.specs.Printing.{satisfied_line, verdict_text}
use Rattle.pg_satisfies_texts.specs.declared.fault.SatisfyFault.{SatisfyFault}
use Rattle.pg_cli_command.specs.Faults.{satisfy_fault}
use Rattle.pg_cli_command.specs.Parts.{Parting, IsParted, AreApart}
use Rattle.pg_cli_command.specs.declared.fault.CliFault.{CliFault}
use Rattle.pg_cli_command.specs.declared.fault.CliFault.TheVariants.{NoSeparator}

-- The first of two texts spells a formula, the second a circuit. The output is the text of a right verdict on whether every run of the
-- circuit satisfies the formula, or its negation if the circuit plays the environment.
pub record IsJudgedOn (Parts : Parting) (environment : Bool) (output : List ℕ) : Type 0 where
  pub first : List ℕ
  pub second : List ℕ
  pub parted : Parts first second
  pub verdict : SatisfactionVerdict
  pub judged : IsJudged first second environment verdict
  pub printed : output ≡ verdict_text environment verdict

-- Why an input has no such output: there aren't two texts, or the two have no verdict.
abbrev pub RefusesJudge : Parting → CliFault → Type 0
RefusesJudge Parts NoSeparator = (first second : List ℕ) → ¬ Parts first second
RefusesJudge Parts fault =
    (first : List ℕ) × (second : List ℕ) × Parts first second × (why : SatisfyFault) × Refuses first second why × (fault ≡ satisfy_fault why)

-- ---- what an output says

-- The texts spell exactly one formula and one circuit, which has exactly one run for each endless input word. The output is the line of a
-- circuit that passes exactly if every run of the circuit satisfies the formula, or its negation if the circuit plays the environment.
pub record TellsRuns (environment : Bool) (first second output : List ℕ) : Type 0 where
  pub names : List (List ℕ)
  pub formula : Formula
  pub circuit : Circuit
  pub symbols : List Symbol
  pub literals : List ℕ
  pub paired : ArePaired first second names formula circuit symbols
  pub meant : AreMeant circuit symbols names literals
  pub one_formula : (ns : List (List ℕ)) (f : Formula) (c : Circuit) (ss : List Symbol) → ArePaired first second ns f c ss
      → (ns ≡ names) × (f ≡ formula)
  pub one_circuit : (ns : List (List ℕ)) (f : Formula) (c : Circuit) (ss : List Symbol) → ArePaired first second ns f c ss
      → (c ≡ circuit) × (ss ≡ symbols)
  pub one_run : (input : ℕ → ℕ) → HasOneRun circuit input
  pub passes : (output ≡ satisfied_line environment) ↔ IsSatisfied circuit literals (asked (not environment) formula)

-- this holds for each output of `verify --ltl`, whether its texts are in one input or each by itself
pub record SatisfiesDecides : Type 0 where
  pub joined : (environment : Bool) (input output : List ℕ) → IsJudgedOn (IsParted input) environment output
      → (first : List ℕ) × (second : List ℕ) × IsParted input first second × TellsRuns environment first second output
  pub apart : (environment : Bool) (first second output : List ℕ) → IsJudgedOn (AreApart first second) environment output
      → TellsRuns environment first second output
