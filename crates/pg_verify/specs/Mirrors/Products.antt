-- How the product of a circuit and an automaton is made.
use Rattle.std.specs.Prelude.{◌≡◌, ℕ, ◌+◌, ◌*◌, ◌/◌, ◌<◌, ◌≤◌, ◌⊎◌, List, [], ◌∷◌, ◌++◌, length, replicate, slice_index_or, codes, Option, Some, None, All}
use Rattle.pg_hoa_automaton.specs.Automata.{Step, Automaton, IsAutomaton, letters, step, next}
use Rattle.pg_hoa_automaton.specs.Mirrors.Tables.{numbered}
use Rattle.pg_hoa_automaton.specs.declared.table.Stored.{Stored}
use Rattle.pg_synth.specs.AutomatonGames.{input_letters, output_letters}
use Rattle.pg_aiger.specs.Circuits.{Circuit}
use Rattle.pg_aiger_netlist.specs.Steps.{spelt, AreValues}
use Rattle.pg_verify.specs.declared.states.ProductState.{ProductState}
pub use Rattle.pg_verify.specs.Reached.{Pair, pair}
pub use Rattle.pg_verify.specs.Products.{pair_at, Leads, Gives, IsMove, HasWholeLetters, IsProductOf}
use Rattle.pg_verify.specs.Reached.{IsReached}

abbrev pub pair_of : ProductState → Pair
pair_of row = pair (spelt row.latches.items) row.state

-- each state is stored with the values of `width` latches
abbrev pub AreWide : ℕ → List ProductState → Type 0
AreWide width rows = All (λ row. length row.latches.items ≡ width) rows

-- the lanes have the values of the steps at the 64 letters of which this is one
abbrev pub AreFilled : Circuit → ℕ → ℕ → List ℕ → Type 0
AreFilled circuit state letter words = (lane : ℕ) → lane < 64 → AreValues circuit state (letter / 64 * 64 + lane) lane words

abbrev pub slot_at : List ℕ → ℕ → ℕ
slot_at slots k = slice_index_or slots k 0

abbrev pub Extends : {A : Type 0} → List A → List A → Type 0
Extends {A} xs ys = (more : List A) × (ys ≡ xs ++ more)

-- `after` has the states, and perhaps this one after them, whose number is n
pub record IsNumbered (pairs : List Pair) (latches state n : ℕ) (after : List Pair) : Type 0 where
  pub grown : (after ≡ pairs) ⊎ (after ≡ pairs ++ pair latches state ∷ [])
  pub number_in : n < length after
  pub there : pair_at after n ≡ pair latches state

-- a slot holds a step's number, or 0 for none; so its meaning doesn't change when steps are added
pub record IsSlot (a : Automaton) (circuit : Circuit) (pairs : List Pair) (steps : List Stored) (lists : List (List ℕ)) (k i slot : ℕ)
    : Type 0 where
  pub move : IsMove a circuit pairs k i (numbered steps lists slot)
  pub none : numbered steps lists slot ≡ None → slot ≡ 0

-- the states so far, and the steps of some of them
pub record IsDraft (a : Automaton) (circuit : Circuit) (pairs : List Pair) (slots : List ℕ) (steps : List Stored)
    (lists : List (List ℕ)) : Type 0 where
  pub some : 0 < length pairs
  pub start : pair_at pairs 0 ≡ pair 0 a.start
  pub states_in : (k : ℕ) → k < length pairs → (pair_at pairs k).state < a.states
  pub reached : (k : ℕ) → k < length pairs → IsReached a circuit (pair_at pairs k)
  pub few_steps : length steps ≤ length slots
  pub few_lists : length lists ≤ length steps
  pub filled : (k i : ℕ) → k < length pairs → i < input_letters a → k * input_letters a + i < length slots
      → IsSlot a circuit pairs steps lists k i (slot_at slots (k * input_letters a + i))

-- each state is an old one, or the one to which the step leads with these latches
abbrev pub AreOldOr : List Pair → List Pair → ℕ → Option Step → Type 0
AreOldOr pairs after latches found =
    (k : ℕ) → k < length after → (k < length pairs) ⊎ ((s : Step) × (found ≡ Some s) × (pair_at after k ≡ pair latches s.target))

-- the step leads to a state below the bound
abbrev pub IsTargetBelow : ℕ → Option Step → Type 0
IsTargetBelow bound None = Unit {0}
IsTargetBelow bound (Some s) = s.target < bound

-- the slot holds the product's step that takes the automaton's step with these latches; states, steps and lists were added for it
pub record IsPut (pairs after : List Pair) (steps more_steps : List Stored) (lists more_lists : List (List ℕ)) (latches : ℕ)
    (found : Option Step) (slot : ℕ) : Type 0 where
  pub pairs_kept : Extends pairs after
  pub steps_kept : Extends steps more_steps
  pub lists_kept : Extends lists more_lists
  pub states_in : (bound : ℕ) → ((k : ℕ) → k < length pairs → (pair_at pairs k).state < bound) → IsTargetBelow bound found
      → (k : ℕ) → k < length after → (pair_at after k).state < bound
  pub old_or : AreOldOr pairs after latches found
  pub one_step : length more_steps ≤ length steps + 1
  pub few_lists : length lists ≤ length steps → length more_lists ≤ length more_steps
  pub leads : Leads after latches found (numbered more_steps more_lists slot)
  pub none : numbered more_steps more_lists slot ≡ None → slot ≡ 0

abbrev pub same_names : ℕ → List (List ℕ)
same_names count = replicate count (codes "i")
