-- Verdicts on a circuit and an automaton.
use Rattle.std.specs.Prelude.{◌≡◌, ◌≢◌, ℕ, ◌-◌, ◌<◌, ◌%◌, nat_lt, if◌then◌else◌, List, [], length, slice_index_or, None, All}
use Rattle.pg_hoa_automaton.specs.Automata.{Automaton}
use Rattle.pg_hoa_automaton.specs.Formulas.{Formula}
use Rattle.pg_hoa_automaton.specs.Words.{state_after, IsAccepted}
use Rattle.pg_synth.specs.AutomatonGames.{input_letters}
use Rattle.pg_synth.specs.Machines.{IsInputWord}
use Rattle.pg_aiger.specs.Circuits.{Circuit}
use Rattle.pg_aiger.specs.Runs.{IsWordOf}
use Rattle.pg_aiger_netlist.specs.Netlists.{HasOneRun}
use Rattle.pg_verify.specs.declared.verdict.CircuitVerdict.{CircuitVerdict}
use Rattle.pg_verify.specs.declared.verdict.CircuitVerdict.TheVariants.{Accepted, Rejected, Stuck}

-- the circuit has one run on the input word, and the automaton accepts the word that the run makes
abbrev pub AcceptsOn : Automaton → Formula → Circuit → (ℕ → ℕ) → Type 0
AcceptsOn a condition circuit input =
    HasOneRun circuit input × ((word : ℕ → ℕ) → IsWordOf circuit a.controllable input word → IsAccepted a condition word)

-- on every endless input word the circuit has one run, and the automaton accepts the word that the run makes
abbrev pub IsCorrect : Automaton → Formula → Circuit → Type 0
IsCorrect a condition circuit = (input : ℕ → ℕ) → IsInputWord a input → AcceptsOn a condition circuit input

-- the letters of the stem, and then the letters of the loop over and over
abbrev pub lasso : List ℕ → List ℕ → ℕ → ℕ
lasso stem loop t =
    if nat_lt t (length stem) then slice_index_or stem t 0 else slice_index_or loop ((t - length stem) % length loop) 0

-- whatever input letters follow these, the automaton has no edge for the last letter that the circuit makes of them
pub record IsStuck (a : Automaton) (circuit : Circuit) (letters : List ℕ) : Type 0 where
  pub letters_in : All (λ i. i < input_letters a) letters
  pub stops : (input word : ℕ → ℕ) → IsInputWord a input → ((t : ℕ) → t < length letters → input t ≡ slice_index_or letters t 0)
      → IsWordOf circuit a.controllable input word → state_after a word (length letters) ≡ None

-- on the lasso the circuit makes a word that the automaton doesn't accept
pub record IsRejected (a : Automaton) (condition : Formula) (circuit : Circuit) (stem loop : List ℕ) : Type 0 where
  pub stem_in : All (λ i. i < input_letters a) stem
  pub loop_in : All (λ i. i < input_letters a) loop
  pub repeats : loop ≢ []
  pub rejects : (word : ℕ → ℕ) → IsWordOf circuit a.controllable (lasso stem loop) word → ¬ IsAccepted a condition word

-- the verdict is right, under a condition of the automaton's shape
abbrev pub Says : Automaton → Formula → Circuit → CircuitVerdict → Type 0
Says a condition circuit Accepted = IsCorrect a condition circuit
Says a condition circuit (Stuck letters) = IsStuck a circuit letters.items
Says a condition circuit (Rejected stem loop) = IsRejected a condition circuit stem.items loop.items

abbrev pub IsAcceptance : CircuitVerdict → Type 0
IsAcceptance Accepted = Unit {0}
IsAcceptance verdict = ⊥
