-- What `means` prints.
use Rattle.std.specs.Prelude.{◌≡◌, ℕ, List}
use Rattle.pg_hoa_automaton.specs.Automata.{Automaton}
use Rattle.pg_ltl.specs.Texts.{IsRefused}
use Rattle.pg_ltl.specs.declared.fault.FormulaFault.{FormulaFault}
use Rattle.pg_ltl.specs.declared.fault.FormulaFault.TheVariants as formula
use Rattle.pg_means.specs.declared.verdict.FormulaVerdict.{FormulaVerdict}
use Rattle.pg_means.specs.declared.fault.MeansFault.TheVariants as means
use Rattle.pg_means_texts.specs.Comparing.{IsCompared, Refuses}
use Rattle.pg_means_texts.specs.Printing.{verdict_text}
use Rattle.pg_means_texts.specs.declared.fault.CompareFault.{CompareFault}
use Rattle.pg_means_texts.specs.declared.fault.CompareFault.TheVariants as compare
use Rattle.pg_cli_command.specs.Parts.{Parting}
use Rattle.pg_cli_command.specs.Making.{IsNoAutomaton}
use Rattle.pg_cli_command.specs.Verifying.{FailsFirstText, FailsSecondText}
use Rattle.pg_cli_command.specs.declared.fault.CliFault.{CliFault}
use Rattle.pg_cli_command.specs.declared.fault.CliFault.TheVariants as cli
use Rattle.pg_cli_command.specs.declared.fault.CliFault.TheVariants.{NoSeparator, Hoa, TooManyPropositions, Means}

-- The first of two texts spells an automaton, the second a formula. The output is the text of a correct verdict, with the names of all
-- their propositions.
pub record IsMeant (Parts : Parting) (output : List ℕ) : Type 0 where
  pub first : List ℕ
  pub second : List ℕ
  pub parted : Parts first second
  pub names : List (List ℕ)
  pub verdict : FormulaVerdict
  pub compared : IsCompared first second names verdict
  pub printed : output ≡ verdict_text names verdict

-- ---- what is refused

-- the text spells no formula, and the fault is one that the reader of formulas gives for its contents
abbrev pub IsNoFormula : List ℕ → FormulaFault → Type 0
IsNoFormula text formula.OutOfMemory = ⊥
IsNoFormula text fault = IsRefused text fault

-- two texts have no verdict for this reason
abbrev pub HaveNone : Parting → CompareFault → Type 0
HaveNone Parts fault = (first : List ℕ) × (second : List ℕ) × Parts first second × Refuses first second fault

-- Why an input has no such output: there aren't two texts; the first spells no automaton, or the second no formula; they have too many
-- propositions together; or no verdict was found.
abbrev pub RefusesMeans : Parting → CliFault → Type 0
RefusesMeans Parts NoSeparator = (first second : List ℕ) → ¬ Parts first second
RefusesMeans Parts (Hoa fault) = FailsFirstText Parts (λ first. IsNoAutomaton first fault)
RefusesMeans Parts (cli.Formula fault) = FailsSecondText Parts (λ a second. IsNoFormula second fault)
RefusesMeans Parts TooManyPropositions = HaveNone Parts compare.TooManyPropositions
RefusesMeans Parts (Means means.OutOfMemory) = ⊥
RefusesMeans Parts (Means fault) = HaveNone Parts (compare.Means fault)
RefusesMeans Parts _ = ⊥
