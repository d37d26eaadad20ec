-- What the answers of `synth` by closed maps, whether or not they are the least, say about endless words.
use Rattle.std.specs.Prelude.{◌≡◌, ℕ, zero, suc, Bool, List, [], ◌∷◌, ◌++◌}
use Rattle.pg_hoa_automaton.specs.Automata.{Automaton}
use Rattle.pg_hoa.specs.AutomatonText.{Spelt}
use Rattle.pg_hoa_automaton.specs.Words.{IsWord, IsAccepted}
use Rattle.pg_synth.specs.Letters.{joined}
use Rattle.pg_synth.specs.Tracing.{Traces}
use Rattle.pg_synth.specs.Machines.{IsInputWord, HasChosenInputs}
use Rattle.pg_aiger.specs.Circuits.{Circuit}
use Rattle.pg_aiger.specs.Runs.{HasOneRun, IsWordOf}
use Rattle.pg_aiger.specs.CircuitText.{Symbol, IsCircuitText}
use Rattle.pg_cli_command.specs.Measuring.{IsMeasureOf, IsClosedMapOf}
use Rattle.pg_cli_command.specs.Making.{IsTooLarge}
use Rattle.pg_cli_command.specs.Synthesising.{realizable, IsRealized, IsUnrealized, IsSynthesised, HasLargeMachine}

-- the circuit makes exactly one word from the input word, and the condition that the input spells accepts it
pub record IsAcceptedWord (input : List ℕ) (a : Automaton) (spelt : Spelt input a) (circuit : Circuit) (letters : ℕ → ℕ)
    : Type 0 where
  pub word : ℕ → ℕ
  pub word_of : IsWordOf circuit a.controllable letters word
  pub one : (other : ℕ → ℕ) → IsWordOf circuit a.controllable letters other → (t : ℕ) → other t ≡ word t
  pub accepted : IsAccepted a spelt.says.condition word

-- The bytes spell exactly one circuit. It has exactly one run for the endless word of input letters, and the automaton that the input
-- spells accepts the word of that run.
pub record AcceptsRun (input bytes : List ℕ) (letters : ℕ → ℕ) : Type 0 where
  pub automaton : Automaton
  pub spelt : Spelt input automaton
  pub circuit : Circuit
  pub symbols : List Symbol
  pub text : IsCircuitText bytes circuit symbols
  pub one_circuit : (other : Circuit) (names : List Symbol) → IsCircuitText bytes other names → other ≡ circuit
  pub one_run : HasOneRun circuit letters
  pub accepts : IsInputWord automaton letters → IsAcceptedWord input automaton spelt circuit letters

-- this holds for the bytes after the first line of each answer that has a circuit
abbrev pub CircuitAccepted : (ℕ → ℕ) → Type 0
CircuitAccepted letters = (input output : List ℕ) → IsRealized IsClosedMapOf input output
    → (bytes : List ℕ) × (output ≡ realizable ++ bytes) × AcceptsRun input bytes letters

-- If the answer is that there is no controller, the automaton accepts no word whose input letters are those that Odd's strategy chooses at
-- the arrivals that the word traces.
abbrev pub NoneAccepted : (ℕ → ℕ) → Type 0
NoneAccepted word = (input output : List ℕ) (answer : IsUnrealized IsClosedMapOf input output) (play : ℕ → ℕ)
    → IsWord answer.odd.automaton word → Traces answer.odd.automaton answer.odd.game word play
    → HasChosenInputs answer.odd.automaton answer.odd.game answer.odd.solution word play
    → ¬ IsAccepted answer.odd.automaton answer.odd.spelt.says.condition word

-- the input letters before step t, the last one first
abbrev pub inputs_before : (ℕ → ℕ) → ℕ → List ℕ
inputs_before letters zero = []
inputs_before letters (suc t) = letters t ∷ inputs_before letters t

-- A controller is any function from the input letters so far to an output letter. This is the word that it makes from an input word.
abbrev pub controlled_word : List Bool → (List ℕ → ℕ) → (ℕ → ℕ) → ℕ → ℕ
controlled_word controllable controller letters t =
    joined controllable (letters t) (controller (inputs_before letters (suc t)))

-- If the answer is that there is no controller, then for each controller there is an input word from which it makes a word that isn't
-- accepted.
abbrev pub NoController : Type 0
NoController = (input output : List ℕ) (answer : IsUnrealized IsClosedMapOf input output) (controller : List ℕ → ℕ)
    → (letters : ℕ → ℕ) × IsInputWord answer.odd.automaton letters
    × (¬ IsAccepted answer.odd.automaton answer.odd.spelt.says.condition
    (controlled_word answer.odd.automaton.controllable controller letters))

-- no input has both answers
abbrev pub OneVerdict : Type 0
OneVerdict = (input first second : List ℕ) → IsRealized IsClosedMapOf input first → ¬ IsUnrealized IsClosedMapOf input second

-- If an input has an answer, it isn't refused for the limits: its game isn't too large and, by least progress measures, neither is the
-- machine that Even wins by.
pub record AnswersWithinLimits : Type 0 where
  pub game : (input output : List ℕ) → IsSynthesised IsClosedMapOf input output → ¬ IsTooLarge input
  pub machine : (input output : List ℕ) → IsSynthesised IsMeasureOf input output → ¬ HasLargeMachine IsMeasureOf input
