-- Endless words, the runs of an automaton on them, and which words it accepts.
use Rattle.std.specs.Prelude.{◌↔◌, ℕ, zero, suc, ◌<◌, ◌≤◌, Bool, IsTrue, List, [], Option, Some, None, IsSome, Contains}
use Rattle.pg_hoa_automaton.specs.Automata.{Step, Automaton, letters, next}
use Rattle.pg_hoa_automaton.specs.Formulas.{Formula, holds}

-- a letter for every step number
abbrev pub IsWord : Automaton → (ℕ → ℕ) → Type 0
IsWord a word = (t : ℕ) → word t < letters a

abbrev pub step_from : Automaton → Option ℕ → ℕ → Option Step
step_from a None letter = None
step_from a (Some state) letter = next a state letter

abbrev pub target_of : Option Step → Option ℕ
target_of None = None
target_of (Some step) = Some step.target

abbrev pub sets_of : Option Step → List ℕ
sets_of None = []
sets_of (Some step) = step.sets

-- the run: the state after the first t letters, none from the first missing step on
abbrev pub state_after : Automaton → (ℕ → ℕ) → ℕ → Option ℕ
state_after a word zero = Some a.start
state_after a word (suc t) = target_of (step_from a (state_after a word t) (word t))

-- the step of the run at step number t
abbrev pub step_at : Automaton → (ℕ → ℕ) → ℕ → Option Step
step_at a word t = step_from a (state_after a word t) (word t)

-- there is no step number from which on the set isn't met
abbrev pub SetRecurs : Automaton → (ℕ → ℕ) → ℕ → Type 0
SetRecurs a word set = ¬ ((t : ℕ) × ((u : ℕ) → t ≤ u → ¬ Contains (sets_of (step_at a word u)) set))

-- the collection holds exactly the sets that recur
abbrev pub HoldsRecurring : Automaton → (ℕ → ℕ) → (ℕ → Bool) → Type 0
HoldsRecurring a word recurs = (set : ℕ) → set < a.sets → IsTrue (recurs set) ↔ SetRecurs a word set

-- the run never ends, and the condition is true of every collection that holds exactly the sets that recur
pub record IsAccepted (a : Automaton) (condition : Formula) (word : ℕ → ℕ) : Type 0 where
  pub endless : (t : ℕ) → IsSome (state_after a word t)
  pub satisfied : (recurs : ℕ → Bool) → HoldsRecurring a word recurs → IsTrue (holds condition recurs)
