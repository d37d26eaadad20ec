-- Walks by Odd's choices in the game of a product.
use Rattle.std.specs.Prelude.{◌≡◌, ℕ, ◌+◌, ◌<◌, List, length, take, drop, slice_index_or, Option, Some}
use Rattle.pg_arena.specs.declared.player.Player.TheVariants.{Odd}
use Rattle.pg_arena.specs.Games.{GameVertex}
use Rattle.pg_text.specs.declared.answer.Answer as solutions
use Rattle.pg_text.specs.Solutions.{choice, winner}
use Rattle.pg_hoa_automaton.specs.Automata.{Step, Automaton, next}
use Rattle.pg_synth.specs.AutomatonGames.{StandsFor, arrival_of}
use Rattle.pg_synth.specs.declared.place.Place.TheVariants.{Answer, Arrival}
use Rattle.pg_verify.specs.declared.verdict.CircuitVerdict.{CircuitVerdict}
use Rattle.pg_verify.specs.declared.verdict.CircuitVerdict.TheVariants.{Accepted, Rejected, Stuck}
use Rattle.pg_verify.specs.Mirrors.Lassos.{after, IsDeadEnd, IsRefuted}

-- at the vertex u, an arrival at the state, Odd chooses the letter, which leads to the vertex w, and Odd wins w
pub record IsChosen (p : Automaton) (game : List GameVertex) (solution : List solutions.Answer) (u state letter w : ℕ) : Type 0 where
  pub answer : ℕ
  pub chosen : choice solution u ≡ Some answer
  pub answers : StandsFor p game answer (Answer state letter)
  pub there : StandsFor p game w (arrival_of p.shape (next p state letter))
  pub won : winner solution w ≡ Odd

-- at an arrival u, Odd chooses the letter, which leads to the arrival w
pub record Goes (p : Automaton) (game : List GameVertex) (solution : List solutions.Answer) (u letter w : ℕ) : Type 0 where
  pub state : ℕ
  pub set : Option ℕ
  pub here : StandsFor p game u (Arrival state set)
  pub answer : ℕ
  pub chosen : choice solution u ≡ Some answer
  pub answers : StandsFor p game answer (Answer state letter)
  pub step : Step
  pub steps : next p state letter ≡ Some step
  pub there : StandsFor p game w (arrival_of p.shape (Some step))

abbrev pub nth : List ℕ → ℕ → ℕ
nth xs k = slice_index_or xs k 0

-- from the initial vertex on, the letters lead from one visited vertex to the next, and Odd wins the last
pub record IsWalk (p : Automaton) (game : List GameVertex) (initial : ℕ) (solution : List solutions.Answer) (visited word : List ℕ)
    (state vertex : ℕ) : Type 0 where
  pub long : length visited ≡ length word + 1
  pub first : nth visited 0 ≡ initial
  pub last : nth visited (length word) ≡ vertex
  pub goes : (j : ℕ) → j < length word → Goes p game solution (nth visited j) (nth word j) (nth visited (j + 1))
  pub set : Option ℕ
  pub here : StandsFor p game vertex (Arrival state set)
  pub won : winner solution vertex ≡ Odd
  pub reached : after p (Some p.start) word ≡ Some state

-- the lasso of the word's two parts
abbrev pub IsLasso : List ℕ → ℕ → CircuitVerdict → Type 0
IsLasso word place (Rejected stem loop) = (stem.items ≡ take place word) × (loop.items ≡ drop place word)
IsLasso word place verdict = ⊥

-- a verdict that doesn't accept shows this of a product
abbrev pub Shows : Automaton → CircuitVerdict → Type 0
Shows p Accepted = ⊥
Shows p (Stuck word) = IsDeadEnd p word.items
Shows p (Rejected stem loop) = IsRefuted p stem.items loop.items
