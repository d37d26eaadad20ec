-- Outcomes for a circuit that plays the environment: its inputs are the propositions that the controller sets, its outputs the others.
use Rattle.std.specs.Prelude.{◌≡◌, ◌≢◌, ℕ, ◌<◌, List, [], All}
use Rattle.pg_hoa_automaton.specs.Automata.{Automaton}
use Rattle.pg_hoa_automaton.specs.Formulas.{Formula}
use Rattle.pg_hoa_automaton.specs.Words.{IsAccepted}
use Rattle.pg_synth.specs.AutomatonGames.{output_letters}
use Rattle.pg_aiger.specs.Circuits.{Circuit}
use Rattle.pg_aiger.specs.Runs.{IsWordOf}
use Rattle.pg_aiger_netlist.specs.Netlists.{HasOneRun}
use Rattle.pg_verify.specs.Verdicts.{lasso}
use Rattle.pg_verify_environment.specs.Counterparts.{exchanged}
use Rattle.pg_verify_environment.specs.declared.outcome.EnvironmentVerdict.{EnvironmentVerdict}
use Rattle.pg_verify_environment.specs.declared.outcome.EnvironmentVerdict.TheVariants.{Refutes, Answered}

-- the circuit has one run on the controller's letters, and the automaton doesn't accept the word that the run makes
abbrev pub RefutesOn : Automaton → Formula → Circuit → (ℕ → ℕ) → Type 0
RefutesOn a condition circuit answers =
    HasOneRun circuit answers
    × ((word : ℕ → ℕ) → IsWordOf circuit (exchanged a.controllable) answers word → ¬ IsAccepted a condition word)

-- the circuit refutes the automaton, whatever the controller's letters are
abbrev pub IsRefutation : Automaton → Formula → Circuit → Type 0
IsRefutation a condition circuit =
    (answers : ℕ → ℕ) → ((t : ℕ) → answers t < output_letters a) → RefutesOn a condition circuit answers

-- on the lasso of the controller's letters the circuit makes a word that the automaton accepts
pub record IsAnswered (a : Automaton) (condition : Formula) (circuit : Circuit) (stem loop : List ℕ) : Type 0 where
  pub stem_in : All (λ o. o < output_letters a) stem
  pub loop_in : All (λ o. o < output_letters a) loop
  pub repeats : loop ≢ []
  pub accepts : (word : ℕ → ℕ) → IsWordOf circuit (exchanged a.controllable) (lasso stem loop) word → IsAccepted a condition word

-- the outcome is right, under a condition of the automaton's shape
abbrev pub Says : Automaton → Formula → Circuit → EnvironmentVerdict → Type 0
Says a condition circuit Refutes = IsRefutation a condition circuit
Says a condition circuit (Answered stem loop) = IsAnswered a condition circuit stem.items loop.items
