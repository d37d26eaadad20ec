-- What `automaton` prints.
use Rattle.std.specs.Prelude.{ℕ, ◌<◌, List, length}
use Rattle.pg_ltl.specs.Formulas.{Formula}
use Rattle.pg_ltl.specs.Texts.{Spelt}
use Rattle.pg_means.specs.declared.verdict.FormulaVerdict.TheVariants.{Same}
use Rattle.pg_means.specs.declared.fault.MeansFault.TheVariants.{TooLarge}
use Rattle.pg_means_texts.specs.Comparing.{IsCompared}
use Rattle.pg_cli_command.specs.Meaning.{IsNoFormula}
use Rattle.pg_cli_command.specs.declared.solver.Untranslated.TheVariants.{TooManyStates, TooManySteps}
use Rattle.pg_cli_command.specs.declared.fault.CliFault.{CliFault}
use Rattle.pg_cli_command.specs.declared.fault.CliFault.TheVariants as cli
use Rattle.pg_cli_command.specs.declared.fault.CliFault.TheVariants.{Means, Untranslated, Unshown}

-- The input spells a formula, and the output an automaton. Over words of all their propositions, the automaton accepts exactly the words
-- that satisfy the formula.
abbrev pub IsTranslated : List ℕ → List ℕ → Type 0
IsTranslated input output = (names : List (List ℕ)) × IsCompared output input names Same

-- the input spells a formula
abbrev pub IsFormula : List ℕ → Type 0
IsFormula input = (names : List (List ℕ)) × (f : Formula) × Spelt input names f

-- Why an input has no such output: it spells no formula; or its formula has too many propositions; or no automaton was found within the limits, or none that is shown to
-- be right.
abbrev pub RefusesAutomaton : List ℕ → CliFault → Type 0
RefusesAutomaton input (cli.Formula fault) = IsNoFormula input fault
RefusesAutomaton input cli.TooManyPropositions = (names : List (List ℕ)) × (f : Formula) × Spelt input names f × (16 < length names)
RefusesAutomaton input (Untranslated TooManyStates) = IsFormula input
RefusesAutomaton input (Untranslated TooManySteps) = IsFormula input
RefusesAutomaton input (Means TooLarge) = IsFormula input
RefusesAutomaton input Unshown = IsFormula input
RefusesAutomaton input _ = ⊥
