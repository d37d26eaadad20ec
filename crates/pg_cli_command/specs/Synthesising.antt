-- What `synth` prints.
use Rattle.std.specs.Prelude.{◌≡◌, ℕ, List, ◌++◌, ◌⊎◌, codes}
use Rattle.pg_arena.specs.declared.player.Player.{Player}
use Rattle.pg_arena.specs.declared.player.Player.TheVariants.{Even, Odd}
use Rattle.pg_arena.specs.Games.{GameVertex, IsWithinLimits}
use Rattle.pg_text.specs.declared.answer.Answer.{Answer}
use Rattle.pg_hoa_automaton.specs.Automata.{Automaton, IsAutomaton}
use Rattle.pg_hoa.specs.AutomatonText.{Spelt}
use Rattle.pg_synth.specs.Machines.{Machine, Follows}
use Rattle.pg_synth.specs.Laws.{IsWonBy}
use Rattle.pg_synth.specs.declared.fault.SynthFault.TheVariants as synth
use Rattle.pg_aiger.specs.Circuits.{Circuit}
use Rattle.pg_aiger.specs.Machines.{IsCircuitOf, IsTooLarge}
use Rattle.pg_aiger.specs.CircuitLayout.{circuit_text}
use Rattle.pg_aiger.specs.declared.fault.AigerFault.TheVariants as aiger
use Rattle.pg_cli_command.specs.Measuring.{MapKind}
use Rattle.pg_cli_command.specs.Solving.{IsSolvedBy, IsUndecidedIn}
use Rattle.pg_cli_command.specs.Making as making
use Rattle.pg_cli_command.specs.Making.{IsGameFor, IsNoAutomaton}
use Rattle.pg_cli_command.specs.declared.fault.CliFault.{CliFault}
use Rattle.pg_cli_command.specs.declared.fault.CliFault.TheVariants.{Hoa, Synth, Aiger, Undecided}

-- The input spells an automaton whose game is within the limits. A map of this game and a map of its dual, both of this kind, give a sound
-- solution, by which the player wins where the game begins.
pub record IsWonFor (Kind : MapKind) (input : List ℕ) (player : Player) : Type 0 where
  pub automaton : Automaton
  pub spelt : Spelt input automaton
  pub is_automaton : IsAutomaton automaton
  pub game : List GameVertex
  pub limits : IsWithinLimits game
  pub initial : ℕ
  pub solution : List Answer
  pub solved : IsSolvedBy Kind game solution
  pub won : IsWonBy automaton game initial solution player

-- Even wins, and this is the circuit of a machine that follows the solution and isn't too large
pub record IsRealizedBy (Kind : MapKind) (input : List ℕ) (circuit : Circuit) : Type 0 where
  pub even : IsWonFor Kind input Even
  pub machine : Machine
  pub follows : Follows even.automaton even.game even.solution machine
  pub within : ¬ IsTooLarge machine
  pub circuit_of : IsCircuitOf machine circuit

-- the line before the circuit
abbrev pub realizable : List ℕ
realizable = codes "REALIZABLE\n"

abbrev pub unrealizable : List ℕ
unrealizable = codes "UNREALIZABLE\n"

-- The output is that line, followed by the text of the circuit.
pub record IsRealized (Kind : MapKind) (input output : List ℕ) : Type 0 where
  pub circuit : Circuit
  pub realized : IsRealizedBy Kind input circuit
  pub printed : output ≡ realizable ++ circuit_text circuit realized.even.automaton

-- Odd wins, and the output says so.
pub record IsUnrealized (Kind : MapKind) (input output : List ℕ) : Type 0 where
  pub odd : IsWonFor Kind input Odd
  pub printed : output ≡ unrealizable

abbrev pub IsSynthesised : MapKind → List ℕ → List ℕ → Type 0
IsSynthesised Kind input output = IsRealized Kind input output ⊎ IsUnrealized Kind input output

-- The input spells an automaton whose game is within the limits. The vertex with this identifier is the least at which a map of this game
-- and a map of its dual, both of this kind, are both top.
pub record IsUndecidedFor (Kind : MapKind) (input : List ℕ) (id : ℕ) : Type 0 where
  pub game : List GameVertex
  pub made : IsGameFor input game
  pub limits : IsWithinLimits game
  pub undecided : IsUndecidedIn Kind game id

-- the input spells an automaton, and a machine that Even wins by is too large for a circuit
pub record HasLargeMachine (Kind : MapKind) (input : List ℕ) : Type 0 where
  pub even : IsWonFor Kind input Even
  pub machine : Machine
  pub follows : Follows even.automaton even.game even.solution machine
  pub over : IsTooLarge machine

-- why an input has no such output: it spells no automaton, or the game or the circuit is too large, or both maps are top at some
-- vertex
abbrev pub RefusesSynth : MapKind → List ℕ → CliFault → Type 0
RefusesSynth Kind input (Hoa fault) = IsNoAutomaton input fault
RefusesSynth Kind input (Synth synth.TooLarge) = making.IsTooLarge input
RefusesSynth Kind input (Aiger aiger.TooLarge) = HasLargeMachine Kind input
RefusesSynth Kind input (Undecided id) = IsUndecidedFor Kind input id
RefusesSynth Kind input _ = ⊥
