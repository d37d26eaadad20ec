-- What `game` prints.
use Rattle.std.specs.Prelude.{◌≡◌, ℕ, List}
use Rattle.pg_arena.specs.Games.{GameVertex, IsWithinLimits}
use Rattle.pg_text.specs.GameLayout.{game_text}
use Rattle.pg_hoa_automaton.specs.Automata.{Automaton}
use Rattle.pg_hoa.specs.AutomatonText.{Spelt, IsRefused}
use Rattle.pg_hoa.specs.declared.fault.HoaFault.{HoaFault}
use Rattle.pg_hoa.specs.declared.fault.HoaFault.TheVariants as hoa
use Rattle.pg_synth.specs.AutomatonGames.{IsGameOfAutomaton}
use Rattle.pg_synth.specs.declared.fault.SynthFault.TheVariants.{TooLarge}
use Rattle.pg_cli_command.specs.declared.fault.CliFault.{CliFault}
use Rattle.pg_cli_command.specs.declared.fault.CliFault.TheVariants.{Hoa, Synth}

-- the input spells an automaton, and this is its game
pub record IsGameFor (input : List ℕ) (game : List GameVertex) : Type 0 where
  pub automaton : Automaton
  pub spelt : Spelt input automaton
  pub game_of : IsGameOfAutomaton automaton game

-- The output is the text of that game, which is within the limits.
pub record IsMade (input output : List ℕ) : Type 0 where
  pub game : List GameVertex
  pub made : IsGameFor input game
  pub limits : IsWithinLimits game
  pub printed : output ≡ game_text game

-- the input spells an automaton whose game is over the limits
pub record IsTooLarge (input : List ℕ) : Type 0 where
  pub game : List GameVertex
  pub made : IsGameFor input game
  pub over : ¬ IsWithinLimits game

-- the text spells no automaton, and the fault is one that the reader of automata gives for its contents
abbrev pub IsNoAutomaton : List ℕ → HoaFault → Type 0
IsNoAutomaton text hoa.OutOfMemory = ⊥
IsNoAutomaton text fault = IsRefused text fault

-- why an input has no such output: it spells no automaton, or the automaton's game is too large
abbrev pub RefusesGame : List ℕ → CliFault → Type 0
RefusesGame input (Hoa fault) = IsNoAutomaton input fault
RefusesGame input (Synth TooLarge) = IsTooLarge input
RefusesGame input _ = ⊥
