-- A machine while it is being built.
use Rattle.std.specs.Prelude.{◌≡◌, ◌≢◌, ℕ, suc, ◌+◌, ◌*◌, ◌<◌, ◌≤◌, ◌⊎◌, List, length, slice_index_or, Option, Some, None}
use Rattle.pg_arena.specs.declared.player.Player.TheVariants.{Even}
use Rattle.pg_arena.specs.Games.{GameVertex}
use Rattle.pg_text.specs.declared.answer.Answer as solutions
use Rattle.pg_text.specs.Solutions.{winner}
use Rattle.pg_hoa_automaton.specs.Automata.{Automaton}
use Rattle.pg_synth.specs.Letters.{joined}
use Rattle.pg_synth.specs.AutomatonGames.{StandsFor, input_letters, output_letters}
use Rattle.pg_synth.specs.Machines.{Machine, FollowsAt, no_reply}
use Rattle.pg_synth.specs.Mirrors.GameLines.{target}
use Rattle.pg_synth.specs.declared.mealy.Reply.{Reply}
use Rattle.pg_synth.specs.declared.place.Place.TheVariants.{Answer}

-- the machine with these parts
abbrev pub machine_with : ℕ → ℕ → ℕ → List Reply → Machine
machine_with states inputs outputs replies =
    record { states = states; inputs = inputs; outputs = outputs; replies = replies }

-- the least output letter by which the state q and the input letter i lead to the identifier n, if there is one
pub record IsLeast (a : Automaton) (q i n output : ℕ) : Type 0 where
  pub output_in : output < output_letters a
  pub leads : target a q (joined a.controllable i output) ≡ n
  pub least : (o : ℕ) → target a q (joined a.controllable i o) ≡ n → output ≤ o

abbrev pub IsLeastIfAny : Automaton → ℕ → ℕ → ℕ → Option ℕ → Type 0
IsLeastIfAny a q i n None = (o : ℕ) → o < output_letters a → target a q (joined a.controllable i o) ≢ n
IsLeastIfAny a q i n (Some output) = IsLeast a q i n output

-- Even wins each answer at the state
abbrev pub IsWonAt : Automaton → List GameVertex → List solutions.Answer → ℕ → Type 0
IsWonAt a game solution q = (i v : ℕ) → StandsFor a game v (Answer q i) → winner solution v ≡ Even

-- the state with this number
abbrev pub state_of : List ℕ → ℕ → ℕ
state_of states k = slice_index_or states k 0

abbrev pub reply_of : List Reply → ℕ → Reply
reply_of replies place = slice_index_or replies place no_reply

-- the states, by their numbers, and the replies so far, state by state and input letter by input letter
pub record IsDraft (a : Automaton) (game : List GameVertex) (solution : List solutions.Answer)
    (states : List ℕ) (replies : List Reply) : Type 0 where
  pub has_start : 0 < length states
  pub starts : state_of states 0 ≡ a.start
  pub below : (k : ℕ) → k < length states → state_of states k < a.states
  pub won : (k : ℕ) → k < length states → IsWonAt a game solution (state_of states k)
  pub distinct : (j k : ℕ) → j < length states → k < length states → state_of states j ≡ state_of states k → j ≡ k
  pub nexts_in : (place : ℕ) → place < length replies → (reply_of replies place).next < length states
  pub follows : (k i : ℕ) → k < length states → i < input_letters a → k * input_letters a + i < length replies
      → FollowsAt a game solution (state_of states k) i (reply_of replies (k * input_letters a + i)).output
      (state_of states (reply_of replies (k * input_letters a + i)).next)
  pub discovered : (n : ℕ) → 0 < n → n < length states
      → (place : ℕ) × (place < length replies) × (place < n * input_letters a) × ((reply_of replies place).next ≡ n)
      × ((earlier : ℕ) → earlier < place → (reply_of replies earlier).next < n)

-- `after` has the states, followed by the state q if it isn't among them; `number` is the number of q in `after`
pub record IsNumbered (states : List ℕ) (q number : ℕ) (after : List ℕ) : Type 0 where
  pub kept : (k : ℕ) → k < length states → state_of after k ≡ state_of states k
  pub number_in : number < length after
  pub there : state_of after number ≡ q
  pub distinct : (j k : ℕ) → j < length after → k < length after → state_of after j ≡ state_of after k → j ≡ k
  pub grows : (length after ≡ length states) ⊎ ((length after ≡ suc (length states)) × (number ≡ length states))
