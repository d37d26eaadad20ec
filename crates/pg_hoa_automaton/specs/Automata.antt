-- What an automaton is.
use Rattle.std.specs.Prelude.{◌≡◌, ◌≢◌, ℕ, ◌^◌, ◌*◌, ◌<◌, ◌≤◌, Bool, List, [], ◌∷◌, map, length, Option, Some, None, get_or}
use Rattle.std.specs.List.{All, AllByRecursion, range_with_len}
use Rattle.std.specs.List.Sorted.{IsStrictlyIncreasing}
use Rattle.pg_hoa_automaton.specs.Formulas.{Formula}
use Rattle.pg_hoa_automaton.specs.Shapes.{FitsShape}
use Rattle.pg_hoa_automaton.specs.declared.shape.Shape.{Shape}
use Rattle.pg_hoa_automaton.specs.declared.shape.Shape.TheVariants.{MinEven, MinOdd}

-- the state that a letter leads to, and the sets met on the way, the least first
pub record Step : Type 0 where
  pub target : ℕ
  pub sets : List ℕ

abbrev pub step : ℕ → List ℕ → Step
step target sets = record { target = target; sets = sets }

-- An automaton over the letters 0, 1, .. below 2 ^ length propositions; bit a of a letter is proposition a.
pub record Automaton : Type 0 where
  pub states : ℕ
  pub start : ℕ
  -- the propositions' names
  pub propositions : List (List ℕ)
  -- for each proposition, whether the controller sets it
  pub controllable : List Bool
  -- the number of sets
  pub sets : ℕ
  pub shape : Shape
  -- for each state, and for each letter, the step if there is one
  pub steps : List (List (Option Step))

abbrev pub letters : Automaton → ℕ
letters a = 2 ^ length a.propositions

-- a function of a state and a letter as lists, for states and letters below these numbers
abbrev pub rows : {A : Type 0} → (ℕ → ℕ → A) → ℕ → ℕ → List (List A)
rows f states letters = map (λ state. map (f state) (range_with_len 0 letters)) (range_with_len 0 states)

-- the step by a letter from a state, if there is one
abbrev pub next : Automaton → ℕ → ℕ → Option Step
next a state letter = get_or (get_or a.steps state []) letter None

-- the greatest of numbers that rise
abbrev pub last : List ℕ → Option ℕ
last [] = None
last (n ∷ []) = Some n
last (n ∷ m ∷ ns) = last (m ∷ ns)

abbrev pub first : List ℕ → Option ℕ
first [] = None
first (n ∷ ns) = Some n

-- the set of a step that counts: the least or the greatest, by the shape
abbrev pub deciding : Shape → List ℕ → Option ℕ
deciding MinEven sets = first sets
deciding MinOdd sets = first sets
deciding _ sets = last sets

abbrev pub IsNameByte : ℕ → Type 0
IsNameByte b = (32 ≤ b) × (b ≢ 127)

-- at least one byte, and no control characters
abbrev pub IsPropositionName : List ℕ → Type 0
IsPropositionName name = (name ≢ []) × AllByRecursion IsNameByte name

-- the step leads to a state below the given number, and the sets met are below the given number, the least first and
-- each once
pub record IsStepOf (states sets : ℕ) (step : Step) : Type 0 where
  pub target_below : step.target < states
  pub sets_below : All (λ s. s < sets) step.sets
  pub sets_rise : IsStrictlyIncreasing step.sets

abbrev pub HasGoodSteps : Automaton → Type 0
HasGoodSteps a = (state letter : ℕ) (step : Step) → state < a.states → letter < letters a → next a state letter ≡ Some step → IsStepOf a.states a.sets step

-- a run begins at a state and goes on to states, each proposition has a name and is set by the controller or not, some
-- condition over the sets has the shape, and everything is within the limits
pub record IsAutomaton (a : Automaton) : Type 0 where
  pub start_below : a.start < a.states
  pub steps : HasGoodSteps a
  pub names : AllByRecursion IsPropositionName a.propositions
  pub marks : length a.controllable ≡ length a.propositions
  pub condition : Formula
  pub shape : FitsShape condition a.sets a.shape
  pub few_states : a.states ≤ 65535
  pub few_propositions : length a.propositions ≤ 16
  pub few_sets : a.sets ≤ 4096
  pub few_steps : a.states * letters a ≤ 16777216
