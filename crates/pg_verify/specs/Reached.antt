-- The states in which a circuit and an automaton can be together, and when there are too many of them.
use Rattle.std.specs.Prelude.{◌≡◌, ◌≢◌, ℕ, zero, suc, ◌/◌, ◌<◌, min, List, length, Some, All}
use Rattle.std.specs.List.{AllPairs}
use Rattle.pg_hoa_automaton.specs.Automata.{Step, Automaton, next}
use Rattle.pg_synth.specs.Letters.{joined}
use Rattle.pg_synth.specs.AutomatonGames.{input_letters}
use Rattle.pg_aiger.specs.Circuits.{Circuit}
use Rattle.pg_aiger.specs.Runs.{Steps}
use Rattle.pg_verify.specs.declared.fault.VerifyFault.{VerifyFault}
use Rattle.pg_verify.specs.declared.fault.VerifyFault.TheVariants.{OutOfMemory, TooLarge}

-- the number that the circuit's latches spell, and the automaton's state
pub record Pair : Type 0 where
  pub latches : ℕ
  pub state : ℕ

abbrev pub pair : ℕ → ℕ → Pair
pair latches state = record { latches = latches; state = state }

-- At some input letter the circuit steps from the first pair's latches to the second's, and the automaton goes from the first pair's
-- state to the second's by the letter that the circuit makes.
pub record IsStepTo (a : Automaton) (circuit : Circuit) (here there : Pair) : Type 0 where
  pub input : ℕ
  pub input_in : input < input_letters a
  pub output : ℕ
  pub steps : Steps circuit here.latches input output there.latches
  pub step : Step
  pub taken : next a here.state (joined a.controllable input output) ≡ Some step
  pub target : step.target ≡ there.state

-- this many steps lead there from the initial state, in which no latch is set
abbrev pub IsReachedIn : Automaton → Circuit → ℕ → Pair → Type 0
IsReachedIn a circuit zero there = there ≡ pair 0 a.start
IsReachedIn a circuit (suc n) there = (here : Pair) × IsReachedIn a circuit n here × IsStepTo a circuit here there

abbrev pub IsReached : Automaton → Circuit → Pair → Type 0
IsReached a circuit there = (n : ℕ) × IsReachedIn a circuit n there

-- at most 65,535 states, and at most 16,777,216 states times input letters
abbrev pub most_states : Automaton → ℕ
most_states a = min 65535 (16777216 / input_letters a)

-- more states than `most_states` are reached
pub record HasTooManyStates (a : Automaton) (circuit : Circuit) : Type 0 where
  pub states : List Pair
  pub distinct : AllPairs (λ x y. x ≢ y) states
  pub reached : All (IsReached a circuit) states
  pub many : most_states a < length states

-- why there is no product
abbrev pub HasNoProduct : Automaton → Circuit → VerifyFault → Type 0
HasNoProduct a circuit OutOfMemory = Unit {0}
HasNoProduct a circuit TooLarge = HasTooManyStates a circuit
