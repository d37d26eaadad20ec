-- The counterpart of an automaton: it accepts the words that the automaton doesn't, and each player sets the other's propositions.
use Rattle.std.specs.Prelude.{◌≡◌, ℕ, suc, ◌*◌, ◌%◌, ◌==◌, ◌<◌, ◌⊎◌, nat_lt, Bool, not, List, [], ◌∷◌, map, Option, Some, None, if◌then◌else◌}
use Rattle.pg_hoa_automaton.specs.declared.shape.Shape.{Shape}
use Rattle.pg_hoa_automaton.specs.declared.shape.Shape.TheVariants.{MaxEven, MaxOdd, MinEven, MinOdd, Always, Never}
use Rattle.pg_verify.specs.declared.fault.VerifyFault.{VerifyFault}
use Rattle.pg_verify.specs.declared.fault.VerifyFault.TheVariants.{OutOfMemory, TooLarge}
use Rattle.pg_hoa_automaton.specs.Automata.{Step, Automaton, IsAutomaton, letters, step, next}

-- the environment sets the controller's propositions, and the controller the environment's
abbrev pub exchanged : List Bool → List Bool
exchanged controllable = map not controllable

-- the shape whose conditions are true where the conditions of this one are false
abbrev pub opposite : Shape → Shape
opposite MaxEven = MaxOdd
opposite MaxOdd = MaxEven
opposite MinEven = MinOdd
opposite MinOdd = MinEven
opposite Always = MaxEven
opposite Never = Always

-- the number of sets of the opposite shape: where all words with an endless run are accepted, one set marks the other words
abbrev pub opposite_sets : Shape → ℕ → ℕ
opposite_sets Always sets = 1
opposite_sets shape sets = sets

-- Where the automaton has no step, the counterpart's run goes on for ever and meets these sets: the opposite shape accepts that.
abbrev pub end_sets : Shape → ℕ → List ℕ
end_sets MaxEven sets = []
end_sets MinEven sets = if sets % 2 == 1 then [] else (1 ∷ [])
end_sets Never sets = []
end_sets shape sets = 0 ∷ []

abbrev pub end_step : Automaton → Step
end_step a = step a.states (end_sets a.shape a.sets)

-- the counterpart's step in the place of the automaton's: the automaton's step if there is one
abbrev pub or_end : Automaton → Option Step → Step
or_end a None = end_step a
or_end a (Some s) = s

-- the last state has only the step at the end
abbrev pub step_on : Automaton → ℕ → ℕ → Step
step_on a state letter = if nat_lt state a.states then or_end a (next a state letter) else end_step a

-- The counterpart has the automaton's steps. Where the automaton has none, a step leads to one more state, and stays there.
pub record IsCounterpart (a c : Automaton) : Type 0 where
  pub is_automaton : IsAutomaton c
  pub states : c.states ≡ suc a.states
  pub start : c.start ≡ a.start
  pub propositions : c.propositions ≡ a.propositions
  pub controllable : c.controllable ≡ exchanged a.controllable
  pub shape : c.shape ≡ opposite a.shape
  pub sets : c.sets ≡ opposite_sets a.shape a.sets
  pub steps : (state letter : ℕ) → state < suc a.states → letter < letters a → next c state letter ≡ Some (step_on a state letter)

-- With one more state it would be over the limits of automata: 65,535 states, and 16,777,216 states times letters.
abbrev pub IsTooLarge : Automaton → Type 0
IsTooLarge a = (65535 < suc a.states) ⊎ (16777216 < suc a.states * letters a)

-- why there is no counterpart
abbrev pub IsRefused : Automaton → VerifyFault → Type 0
IsRefused a OutOfMemory = Unit {0}
IsRefused a TooLarge = IsTooLarge a
