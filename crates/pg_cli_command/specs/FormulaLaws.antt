-- What the outputs of `means` and `automaton` say about endless words.
use Rattle.std.specs.Prelude.{◌≡◌, ◌⊎◌, ◌↔◌, ℕ, Bool, List, ◌++◌, length, take, drop, codes}
use Rattle.pg_hoa_automaton.specs.Automata.{Automaton}
use Rattle.pg_hoa_automaton.specs.Formulas as conditions
use Rattle.pg_hoa.specs.Outputs.{HasOutputs}
use Rattle.pg_ltl.specs.Formulas.{Formula}
use Rattle.pg_ltl.specs.Texts.{Spelt}
use Rattle.pg_synth.specs.Machines.{IsInputWord}
use Rattle.pg_means.specs.Verdicts.{IsWordOver, own_word, IsSatisfied, AreSame, AreApart}
use Rattle.pg_means_texts.specs.Names.{all_names, places_of}
use Rattle.pg_means_texts.specs.Comparing.{ArePaired}
use Rattle.pg_means_texts.specs.Printing.{taker, letter_lines}
use Rattle.pg_cli_command.specs.Parts as parts
use Rattle.pg_cli_command.specs.Measuring.{IsClosedMapOf}
use Rattle.pg_cli_command.specs.Meaning.{IsMeant}
use Rattle.pg_cli_command.specs.Translating.{IsTranslated}
use Rattle.pg_cli_command.specs.Synthesising.{realizable, IsRealized, IsUnrealized}
use Rattle.pg_cli_command.specs.Small.{IsSmall}
use Rattle.pg_cli_command.specs.Controllers.{AcceptsRun, controlled_word}

-- ---- `means`

abbrev pub same : List ℕ
same = codes "SAME\n"

-- over words of all propositions, the automaton accepts exactly the words that satisfy the formula
abbrev pub AreTheSame : Automaton → conditions.Formula → List (List ℕ) → Formula → Type 0
AreTheSame a condition own f = let names = all_names a.propositions own in AreSame a condition (length names) (places_of names own) f

-- The output is `DIFFERS`, a line that says which of the two accepts the word, and the lines of a lasso. That one accepts the word of the
-- lasso, and the other doesn't.
pub record ShowsApart (a : Automaton) (condition : conditions.Formula) (own : List (List ℕ)) (f : Formula) (output : List ℕ) : Type 0 where
  pub names : List (List ℕ)
  pub all : names ≡ all_names a.propositions own
  pub accepted : Bool
  pub letters : List ℕ
  pub back : ℕ
  pub printed : output ≡ codes "DIFFERS\n" ++ (taker accepted ++ (letter_lines names (take back letters)
      ++ (codes "loop\n" ++ letter_lines names (drop back letters))))
  pub apart : AreApart a condition (length names) (places_of names own) f accepted letters back

-- The texts spell exactly one automaton and one formula. The output is `SAME` exactly if the automaton accepts the words that satisfy the
-- formula and no others. Otherwise it shows a word on which they differ.
pub record Tells (first second output : List ℕ) : Type 0 where
  pub automaton : Automaton
  pub own : List (List ℕ)
  pub formula : Formula
  pub paired : ArePaired first second automaton own formula
  pub one_pair : (a : Automaton) (names : List (List ℕ)) (f : Formula) → ArePaired first second a names f
      → (a ≡ automaton) × (names ≡ own) × (f ≡ formula)
  pub is_same : (output ≡ same) ↔ AreTheSame automaton paired.spelt.says.condition own formula
  pub shows : (output ≡ same) ⊎ ShowsApart automaton paired.spelt.says.condition own formula output

-- this holds for each output of `means`, whether its texts are in one input or each by itself
pub record MeansDecides : Type 0 where
  pub joined : (input output : List ℕ) → IsMeant (parts.IsParted input) output
      → (first : List ℕ) × (second : List ℕ) × parts.IsParted input first second × Tells first second output
  pub apart : (first second output : List ℕ) → IsMeant (parts.AreApart first second) output → Tells first second output

-- ---- `automaton`, and then `synth`

-- `automaton` prints an automaton for the formula's text, and `given` is the text of that automaton with outputs
abbrev pub IsSpecified : List ℕ → List ℕ → Type 0
IsSpecified formula given = (text : List ℕ) × (outs : List (List ℕ)) × IsTranslated formula text × HasOutputs text outs given

-- `whole` is a word over all propositions that agrees with `word` on the propositions of the automaton
pub record IsWordOf (a : Automaton) (own : List (List ℕ)) (word whole : ℕ → ℕ) : Type 0 where
  pub over : IsWordOver (length (all_names a.propositions own)) whole
  pub is : (t : ℕ) → own_word a whole t ≡ word t

-- the word satisfies the formula, whose propositions have these names, whatever the values of the propositions that the automaton lacks
abbrev pub Satisfies : Automaton → List (List ℕ) → Formula → (ℕ → ℕ) → Type 0
Satisfies a own f word = (whole : ℕ → ℕ) → IsWordOf a own word whole → IsSatisfied (places_of (all_names a.propositions own) own) f whole

-- the word doesn't satisfy the formula, whatever the values of the propositions that the automaton lacks
abbrev pub Violates : Automaton → List (List ℕ) → Formula → (ℕ → ℕ) → Type 0
Violates a own f word = (whole : ℕ → ℕ) → IsWordOf a own word whole → ¬ IsSatisfied (places_of (all_names a.propositions own) own) f whole

-- The bytes spell exactly one circuit, which has exactly one run for the endless word of input letters. The word of this run satisfies the
-- formula.
pub record SatisfiesRun (formula given bytes : List ℕ) (letters : ℕ → ℕ) : Type 0 where
  pub run : AcceptsRun given bytes letters
  pub own : List (List ℕ)
  pub f : Formula
  pub read : Spelt formula own f
  pub satisfies : (inputs : IsInputWord run.automaton letters) → Satisfies run.automaton own f (run.accepts inputs).word

-- This holds for each circuit that `synth` and `synth --small` print for the automaton of a formula.
abbrev pub ControllerSatisfies : (ℕ → ℕ) → Type 0
ControllerSatisfies letters =
    (formula given output : List ℕ) → IsSpecified formula given → IsSmall given output ⊎ IsRealized IsClosedMapOf given output
    → (bytes : List ℕ) × (output ≡ realizable ++ bytes) × SatisfiesRun formula given bytes letters

-- If `synth` prints that there is no controller, then for each controller there is an input word from which it makes a word that doesn't
-- satisfy the formula.
abbrev pub NoneSatisfies : Type 0
NoneSatisfies =
    (formula given output : List ℕ) → IsSpecified formula given → (answer : IsUnrealized IsClosedMapOf given output) (controller : List ℕ → ℕ)
    → (own : List (List ℕ)) × (f : Formula) × Spelt formula own f × (letters : ℕ → ℕ) × IsInputWord answer.odd.automaton letters
    × Violates answer.odd.automaton own f (controlled_word answer.odd.automaton.controllable controller letters)
