-- The product of a circuit and an automaton.
use Rattle.std.specs.Prelude.{◌≡◌, ℕ, ◌<◌, List, length, slice_index_or, Option, Some, None}
use Rattle.pg_arena.specs.Games.{GameVertex, IsWithinLimits}
use Rattle.pg_hoa_automaton.specs.Automata.{Step, Automaton, IsAutomaton, letters, step, next}
use Rattle.pg_synth.specs.Letters.{joined}
use Rattle.pg_synth.specs.AutomatonGames.{input_letters, output_letters, IsGameOfAutomaton}
use Rattle.pg_aiger.specs.Circuits.{Circuit}
use Rattle.pg_aiger.specs.Runs.{Valuation, IsStepAt, number_of, nexts}
use Rattle.pg_verify.specs.Reached.{Pair, pair}

-- the state of the product with this number
abbrev pub pair_at : List Pair → ℕ → Pair
pair_at pairs k = slice_index_or pairs k (pair 0 0)

-- a step of the product: it leads to these latches and to the target of the automaton's step, with the same sets
abbrev pub Leads : List Pair → ℕ → Option Step → Option Step → Type 0
Leads pairs latches None made = made ≡ None
Leads pairs latches (Some s) made =
    (n : ℕ) × (n < length pairs) × (pair_at pairs n ≡ pair latches s.target) × (made ≡ Some (step n s.sets))

-- the outputs and the next latches, in each valuation of the step
abbrev pub Gives : Circuit → ℕ → ℕ → ℕ → ℕ → Type 0
Gives circuit state letter output latches =
    (v : Valuation) → IsStepAt circuit state letter v → (output ≡ number_of v circuit.outputs) × (latches ≡ number_of v (nexts circuit))

-- from a state of the product the input letter leads where the circuit's output and the automaton's step lead
pub record IsMove (a : Automaton) (circuit : Circuit) (pairs : List Pair) (k i : ℕ) (made : Option Step) : Type 0 where
  pub output : ℕ
  pub latches : ℕ
  pub gives : Gives circuit (pair_at pairs k).latches i output latches
  pub leads : Leads pairs latches (next a (pair_at pairs k).state (joined a.controllable i output)) made

-- all letters are input letters, and there is one output letter
pub record HasWholeLetters (p : Automaton) : Type 0 where
  pub as_many : input_letters p ≡ letters p
  pub no_outputs : output_letters p ≡ 1
  pub unjoined : (l o : ℕ) → l < letters p → joined p.controllable l o ≡ l

-- An automaton over the input letters, whose states hold the circuit's latches and the automaton's state.
pub record IsProductOf (a : Automaton) (circuit : Circuit) (product : Automaton) : Type 0 where
  pub is_automaton : IsAutomaton product
  pub sets : product.sets ≡ a.sets
  pub shape : product.shape ≡ a.shape
  pub letters_are : letters product ≡ input_letters a
  pub whole_letters : HasWholeLetters product
  pub pairs : List Pair
  pub count : product.states ≡ length pairs
  pub start : pair_at pairs product.start ≡ pair 0 a.start
  pub moves : (k i : ℕ) → k < length pairs → i < input_letters a → IsMove a circuit pairs k i (next product k i)

-- the product has a game that is over the limits
abbrev pub HasLargeGame : Automaton → Circuit → Type 0
HasLargeGame a circuit =
    (product : Automaton) × (game : List GameVertex) × IsProductOf a circuit product × IsGameOfAutomaton product game × ¬ IsWithinLimits game
