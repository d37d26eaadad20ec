-- Mealy machines, which of them follow a solution of the game of an automaton, and the words that they make.
use Rattle.std.specs.Prelude.{◌≡◌, ℕ, zero, suc, ◌+◌, ◌*◌, ◌^◌, ◌<◌, ◌≤◌, Bool, List, length, slice_index_or, Some, IsSome}
use Rattle.pg_arena.specs.Games.{GameVertex}
use Rattle.pg_text.specs.declared.answer.Answer as solutions
use Rattle.pg_text.specs.Solutions.{choice}
use Rattle.pg_hoa_automaton.specs.Automata.{Step, Automaton, next}
use Rattle.pg_hoa_automaton.specs.Words.{state_after}
use Rattle.pg_synth.specs.Letters.{input_of, joined, inputs, outputs}
use Rattle.pg_synth.specs.AutomatonGames.{StandsFor, arrival_of, input_letters, output_letters}
use Rattle.pg_synth.specs.declared.place.Place.TheVariants.{Answer}
use Rattle.pg_synth.specs.declared.mealy.Reply.{Reply}

-- A machine begins in its state 0. A reply to an input letter is an output letter and the next state.
pub record Machine : Type 0 where
  pub states : ℕ
  -- the number of propositions in an input letter, and in an output letter
  pub inputs : ℕ
  pub outputs : ℕ
  -- the replies of state 0 to the input letters 0, 1, .., then those of state 1, and so on
  pub replies : List Reply

-- the value past the last reply
abbrev pub no_reply : Reply
no_reply = record { output = 0; next = 0 }

abbrev pub reply_at : Machine → ℕ → Reply
reply_at machine place = slice_index_or machine.replies place no_reply

-- the reply of the state k to the input letter i
abbrev pub reply : Machine → ℕ → ℕ → Reply
reply machine k i = reply_at machine (k * 2 ^ machine.inputs + i)

-- there is a reply for each state and input letter, its numbers are in range, and all is within the limits of an automaton
pub record IsMachine (machine : Machine) : Type 0 where
  pub has_start : 0 < machine.states
  pub whole : length machine.replies ≡ machine.states * 2 ^ machine.inputs
  pub outputs_in : (k i : ℕ) → k < machine.states → i < 2 ^ machine.inputs
      → (reply machine k i).output < 2 ^ machine.outputs
  pub nexts_in : (k i : ℕ) → k < machine.states → i < 2 ^ machine.inputs → (reply machine k i).next < machine.states
  pub few_states : machine.states ≤ 65535
  pub few_propositions : machine.inputs + machine.outputs ≤ 16
  pub few_steps : machine.states * 2 ^ (machine.inputs + machine.outputs) ≤ 16777216

-- the state after the first t input letters, and the output letter for the next one
abbrev pub machine_state : Machine → (ℕ → ℕ) → ℕ → ℕ
machine_state machine input zero = 0
machine_state machine input (suc t) = (reply machine (machine_state machine input t) (input t)).next

abbrev pub machine_output : Machine → (ℕ → ℕ) → ℕ → ℕ
machine_output machine input t = (reply machine (machine_state machine input t) (input t)).output

-- the word of an input word: each input letter joined with the machine's output letter
abbrev pub machine_word : List Bool → Machine → (ℕ → ℕ) → ℕ → ℕ
machine_word controllable machine input t = joined controllable (input t) (machine_output machine input t)

-- At the automaton's state q and the input letter i, the output letter leads to the chosen successor of the answer, which is an arrival
-- at the state `target`, and no smaller output letter does.
pub record FollowsAt (a : Automaton) (game : List GameVertex) (solution : List solutions.Answer)
    (q i output target : ℕ) : Type 0 where
  pub output_in : output < output_letters a
  pub step : Step
  pub steps : next a q (joined a.controllable i output) ≡ Some step
  pub lands : step.target ≡ target
  pub chosen : (v w : ℕ) → StandsFor a game v (Answer q i) → choice solution v ≡ Some w
      → StandsFor a game w (arrival_of a.shape (Some step))
  pub least : (v w o : ℕ) → StandsFor a game v (Answer q i) → choice solution v ≡ Some w
      → StandsFor a game w (arrival_of a.shape (next a q (joined a.controllable i o))) → output ≤ o

-- `numbering` gives for each state of the machine the automaton's state
pub record IsMachineOf (a : Automaton) (game : List GameVertex) (solution : List solutions.Answer) (numbering : ℕ → ℕ)
    (machine : Machine) : Type 0 where
  pub is_machine : IsMachine machine
  pub same_inputs : machine.inputs ≡ inputs a.controllable
  pub same_outputs : machine.outputs ≡ outputs a.controllable
  pub starts : numbering 0 ≡ a.start
  pub follows : (k i : ℕ) → k < machine.states → i < input_letters a
      → FollowsAt a game solution (numbering k) i (reply machine k i).output (numbering (reply machine k i).next)

-- No state of the automaton has two numbers. Each state but the first is next in a reply of a state with a smaller number, and before the
-- first such reply none leads to a state with a greater number: states are numbered as they are met, state by state and letter by letter.
pub record IsInOrder (numbering : ℕ → ℕ) (machine : Machine) : Type 0 where
  pub distinct : (j k : ℕ) → j < machine.states → k < machine.states → numbering j ≡ numbering k → j ≡ k
  pub discovered : (n : ℕ) → 0 < n → n < machine.states
      → (place : ℕ) × (place < n * 2 ^ machine.inputs) × ((reply_at machine place).next ≡ n)
      × ((earlier : ℕ) → earlier < place → (reply_at machine earlier).next < n)

-- the machine follows the solution, and its states are numbered in order
abbrev pub Follows : Automaton → List GameVertex → List solutions.Answer → Machine → Type 0
Follows a game solution machine =
    (numbering : ℕ → ℕ) × IsMachineOf a game solution numbering machine × IsInOrder numbering machine

abbrev pub IsInputWord : Automaton → (ℕ → ℕ) → Type 0
IsInputWord a input = (t : ℕ) → input t < input_letters a

-- until the run ends, the word's input letters are those that the solution chooses at the arrivals that it traces
abbrev pub HasChosenInputs : Automaton → List GameVertex → List solutions.Answer → (ℕ → ℕ) → (ℕ → ℕ) → Type 0
HasChosenInputs a game solution word play =
    (t w q i : ℕ) → IsSome (state_after a word t) → choice solution (play (2 * t)) ≡ Some w
    → StandsFor a game w (Answer q i) → input_of a.controllable (word t) ≡ i
