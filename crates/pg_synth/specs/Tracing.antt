-- The play that an endless word traces in the game of an automaton.
use Rattle.std.specs.Prelude.{ℕ, zero, suc, ◌+◌, ◌*◌, List, Option, Some, None}
use Rattle.pg_arena.specs.Games.{GameVertex, IsEdge}
use Rattle.pg_check.specs.Plays.{IsPlay}
use Rattle.pg_hoa_automaton.specs.Automata.{Automaton}
use Rattle.pg_synth.specs.Letters.{input_of}
use Rattle.pg_hoa_automaton.specs.Words.{state_after, step_at}
use Rattle.pg_synth.specs.AutomatonGames.{StandsFor, arrival_of}
use Rattle.pg_synth.specs.declared.place.Place.{Place}
use Rattle.pg_synth.specs.declared.place.Place.TheVariants.{Dead, Arrival, Answer}

-- the arrival to which the first t letters lead
abbrev pub arrival_after : Automaton → (ℕ → ℕ) → ℕ → Place
arrival_after a word zero = Arrival a.start None
arrival_after a word (suc t) = arrival_of a.shape (step_at a word t)

abbrev pub answer_at : Option ℕ → ℕ → Place
answer_at None i = Dead
answer_at (Some q) i = Answer q i

-- the answer to the input letter after the first t letters
abbrev pub answer_after : Automaton → (ℕ → ℕ) → ℕ → Place
answer_after a word t = answer_at (state_after a word t) (input_of a.controllable (word t))

-- the play goes from arrival to answer to arrival, as the word leads it
pub record Traces (a : Automaton) (game : List GameVertex) (word play : ℕ → ℕ) : Type 0 where
  pub goes_on : IsPlay (IsEdge game) play
  pub arrivals : (t : ℕ) → StandsFor a game (play (2 * t)) (arrival_after a word t)
  pub answers : (t : ℕ) → StandsFor a game (play (2 * t + 1)) (answer_after a word t)
