-- The laws, as statements.
use Rattle.std.specs.Prelude.{◌≡◌, ◌↔◌, ℕ, ◌*◌, ◌≤◌, Bool, List, Option, Some, None}
use Rattle.pg_arena.specs.declared.player.Player.{Player}
use Rattle.pg_arena.specs.declared.player.Player.TheVariants.{Even, Odd}
use Rattle.pg_arena.specs.Games.{GameVertex, priority}
use Rattle.pg_check.specs.Plays.{WinsPlay}
use Rattle.pg_check.specs.Soundness.{IsSound}
use Rattle.pg_text.specs.declared.answer.Answer.{Answer}
use Rattle.pg_text.specs.Solutions.{IsSolution, winner}
use Rattle.pg_hoa_automaton.specs.Automata.{Automaton, IsAutomaton}
use Rattle.pg_hoa_automaton.specs.Formulas.{Formula}
use Rattle.pg_hoa_automaton.specs.Shapes.{FitsShape}
use Rattle.pg_synth.specs.Letters.{JoinsBack}
use Rattle.pg_hoa_automaton.specs.Words.{IsWord, state_after, IsAccepted}
use Rattle.pg_synth.specs.AutomatonGames.{StandsFor, IsGameOfAutomaton}
use Rattle.pg_synth.specs.Tracing.{Traces}
use Rattle.pg_synth.specs.Answers.{IsSynthGame, IsMealyOf}
use Rattle.pg_synth.specs.Machines.{Machine, machine_word, IsMachineOf, Follows, IsInputWord, HasChosenInputs}
use Rattle.pg_synth.specs.declared.place.Place.TheVariants.{Dead, Arrival}

abbrev pub JoinedLetters : Type 0
JoinedLetters = (controllable : List Bool) → JoinsBack controllable

-- A word traces one play. From the first missing step on it stays at the dead vertex. Under each condition of the automaton's
-- shape the word is accepted exactly if Even wins the play.
pub record TracesOnePlay (a : Automaton) (game : List GameVertex) (word : ℕ → ℕ) : Type 0 where
  pub traced : (play : ℕ → ℕ) × Traces a game word play
  pub one : (first second : ℕ → ℕ) → Traces a game word first → Traces a game word second → (t : ℕ) → first t ≡ second t
  pub ends : (play : ℕ → ℕ) → Traces a game word play → (t u : ℕ) → state_after a word t ≡ None → 2 * t ≤ u
      → StandsFor a game (play u) Dead
  pub decides : (condition : Formula) → FitsShape condition a.sets a.shape → (play : ℕ → ℕ) → Traces a game word play
      → IsAccepted a condition word ↔ WinsPlay Even (λ t. priority game (play t))

abbrev pub WordAndPlay : Type 0
WordAndPlay =
    (a : Automaton) (game : List GameVertex) (word : ℕ → ℕ) → IsAutomaton a → IsGameOfAutomaton a game
    → IsWord a word → TracesOnePlay a game word

-- an automaton has a game, and every game of it is the same
abbrev pub OneGame : Type 0
OneGame =
    (a : Automaton) → IsAutomaton a
    → (game : List GameVertex) × IsGameOfAutomaton a game × ((other : List GameVertex) → IsGameOfAutomaton a other → other ≡ game)

-- The solution is sound, and the player wins by it where the game begins.
pub record IsWonBy (a : Automaton) (game : List GameVertex) (initial : ℕ) (solution : List Answer) (player : Player) : Type 0 where
  pub game_of : IsGameOfAutomaton a game
  pub begins : StandsFor a game initial (Arrival a.start None)
  pub solution_of : IsSolution game solution
  pub sound : IsSound game solution
  pub wins : winner solution initial ≡ player

-- if Even wins, every word of the machine is accepted
abbrev pub MachineAccepted : Type 0
MachineAccepted =
    (a : Automaton) (game : List GameVertex) (initial : ℕ) (solution : List Answer) (numbering : ℕ → ℕ) (machine : Machine)
    (condition : Formula) (input : ℕ → ℕ) → IsAutomaton a → FitsShape condition a.sets a.shape → IsWonBy a game initial solution Even
    → IsMachineOf a game solution numbering machine → IsInputWord a input
    → IsAccepted a condition (machine_word a.controllable machine input)

-- if Odd wins, no word with Odd's input letters is accepted
abbrev pub Unrealizable : Type 0
Unrealizable =
    (a : Automaton) (game : List GameVertex) (initial : ℕ) (solution : List Answer) (condition : Formula) (word play : ℕ → ℕ)
    → IsAutomaton a → FitsShape condition a.sets a.shape → IsWonBy a game initial solution Odd → IsWord a word
    → Traces a game word play → HasChosenInputs a game solution word play → ¬ IsAccepted a condition word

-- only one machine follows a sound solution by which Even wins
abbrev pub OneMachine : Type 0
OneMachine =
    (a : Automaton) (game : List GameVertex) (initial : ℕ) (solution : List Answer) (machine other : Machine)
    → IsAutomaton a → IsWonBy a game initial solution Even
    → Follows a game solution machine → Follows a game solution other → other ≡ machine

-- What a result says of endless words: every word of the machine is accepted; if there is no machine, no word with Odd's input letters is
-- accepted.
abbrev pub Says : Automaton → List GameVertex → List Answer → Formula → Option Machine → Type 0
Says a game solution condition (Some machine) =
    (input : ℕ → ℕ) → IsInputWord a input → IsAccepted a condition (machine_word a.controllable machine input)
Says a game solution condition None =
    (word play : ℕ → ℕ) → IsWord a word → Traces a game word play → HasChosenInputs a game solution word play
    → ¬ IsAccepted a condition word

abbrev pub AnswerHolds : Type 0
AnswerHolds =
    (a : Automaton) (game : List GameVertex) (initial : ℕ) (solution : List Answer) (condition : Formula) (answer : Option Machine)
    → IsAutomaton a → FitsShape condition a.sets a.shape → IsSynthGame a game initial → IsSolution game solution
    → IsSound game solution → IsMealyOf a game initial solution answer → Says a game solution condition answer
