-- The results for an automaton: its game and the vertex where it begins, and a machine; or why there is none.
use Rattle.std.specs.Prelude.{◌≡◌, ℕ, List, Option, Some, None}
use Rattle.pg_arena.specs.declared.player.Player.TheVariants.{Even, Odd}
use Rattle.pg_arena.specs.Games.{GameVertex, IsWithinLimits}
use Rattle.pg_text.specs.declared.answer.Answer.{Answer}
use Rattle.pg_text.specs.Solutions.{winner}
use Rattle.pg_hoa_automaton.specs.Automata.{Automaton}
use Rattle.pg_synth.specs.AutomatonGames.{StandsFor, IsGameOfAutomaton}
use Rattle.pg_synth.specs.Machines.{Machine, Follows}
use Rattle.pg_synth.specs.declared.fault.SynthFault.{SynthFault}
use Rattle.pg_synth.specs.declared.fault.SynthFault.TheVariants.{OutOfMemory, TooLarge}
use Rattle.pg_synth.specs.declared.place.Place.TheVariants.{Arrival}

-- the game of the automaton, within the limits, with its initial vertex: the arrival at the initial state without a set
pub record IsSynthGame (a : Automaton) (game : List GameVertex) (initial : ℕ) : Type 0 where
  pub is_game_of : IsGameOfAutomaton a game
  pub limits : IsWithinLimits game
  pub begins : StandsFor a game initial (Arrival a.start None)

-- why there is no game; memory may run out at any time
abbrev pub Refuses : Automaton → SynthFault → Type 0
Refuses a OutOfMemory = Unit {0}
Refuses a TooLarge = (game : List GameVertex) × IsGameOfAutomaton a game × ¬ IsWithinLimits game

-- none if and only if Odd wins where the game begins, and otherwise a machine that follows the solution
abbrev pub IsMealyOf : Automaton → List GameVertex → ℕ → List Answer → Option Machine → Type 0
IsMealyOf a game initial solution None = winner solution initial ≡ Odd
IsMealyOf a game initial solution (Some machine) = (winner solution initial ≡ Even) × Follows a game solution machine
