-- An automaton as one over a given number of propositions, the first of which are its own, in which every letter leads on from every
-- state. Where no edge matches a letter, a run goes to an extra state and stays there. The sets met on the way determine a priority.
use Rattle.std.specs.Prelude.{◌≡◌, ℕ, ◌%◌, ◌^◌, ◌<◌, Option, Some, None}
use Rattle.pg_hoa_automaton.specs.Automata.{Step, Automaton, letters, next}
use Rattle.pg_synth.specs.AutomatonGames.{place_priority, arrival_of}
use Rattle.pg_means_look.specs.Automata as complete

-- a run that has ended is at the extra state after the last one
abbrev pub state_code : Automaton → Option ℕ → ℕ
state_code a None = a.states
state_code a (Some state) = state

abbrev pub target_code : Automaton → Option Step → ℕ
target_code a None = a.states
target_code a (Some step) = step.target

-- the priority of the arrival to which the step leads in the automaton's game, or 1 if there is no step
abbrev pub step_priority : Automaton → Option Step → ℕ
step_priority a step = place_priority a.shape a.sets (arrival_of a.shape step)

pub record IsCompleted (a : Automaton) (propositions : ℕ) (b : complete.Automaton) : Type 0 where
  pub as_many : b.letters ≡ 2 ^ propositions
  pub start : b.start ≡ a.start
  pub target : (q l : ℕ) → q < a.states → l < b.letters → b.target q l ≡ target_code a (next a q (l % letters a))
  pub priority : (q l : ℕ) → q < a.states → l < b.letters → b.priority q l ≡ step_priority a (next a q (l % letters a))
  pub end_target : (l : ℕ) → l < b.letters → b.target a.states l ≡ a.states
  pub end_priority : (l : ℕ) → l < b.letters → b.priority a.states l ≡ 1
  pub bounded : complete.IsBounded b
