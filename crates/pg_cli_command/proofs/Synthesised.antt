-- What `synth` prints, and why it prints nothing, from what the steps give.
use Rattle.pg_cli_command.proofs.Common.{◌≡◌, ◌≢◌, ℕ, List, ◌++◌, Some, refl, ◌∙◌, Player, Even, GameVertex, Answer, winner, IsSolution}
use Rattle.pg_cli_command.proofs.Common.{IsSound, Automaton, IsAutomaton, Spelt, IsSynthGame, IsMealyOf, Machine, Circuit, IsCircuitOf}
use Rattle.pg_cli_command.proofs.Common.{circuit_text, AigerFault, IsSolvedBy, MapKind, Fits, Fails, IsWonFor, IsRealized, HasLargeMachine}
use Rattle.pg_cli_command.proofs.Common.{RefusesSynth, realizable, aiger_fault}
use Rattle.pg_aiger.specs.Machines.{IsTooLarge}
use Rattle.pg_aiger.specs.declared.fault.AigerFault.TheVariants as aiger

-- the maker of circuits writes nothing
pub refuses_circuit : (Kind : MapKind) (input : List ℕ) (fault : AigerFault) → fault ≢ aiger.Write
    → (fault ≡ aiger.TooLarge → HasLargeMachine Kind input) → Fails (RefusesSynth Kind input) (aiger_fault fault)
refuses_circuit Kind input aiger.OutOfMemory other large = tt
refuses_circuit Kind input aiger.Write other large = absurd (other refl)
refuses_circuit Kind input aiger.TooLarge other large = large refl

-- the circuit of a machine has the propositions of the automaton
pub fits_by : (a : Automaton) (game : List GameVertex) (initial : ℕ) (solution : List Answer) (machine : Machine) (circuit : Circuit)
    → IsMealyOf a game initial solution (Some machine) → IsCircuitOf machine circuit → Fits a (Some circuit)
fits_by a game initial solution machine circuit mealy of = (of.inputs ∙ mealy.1.1.same_inputs, of.outputs ∙ mealy.1.1.same_outputs)

-- what is known of the game and of its solution
pub record IsKnown (Kind : MapKind) (input : List ℕ) (a : Automaton) (game : List GameVertex) (initial : ℕ) (solution : List Answer) : Type 0 where
  pub spelt : Spelt input a
  pub is_automaton : IsAutomaton a
  pub game_of : IsSynthGame a game initial
  pub solved : IsSolvedBy Kind game solution
  pub whole : IsSolution game solution
  pub sound : IsSound game solution

module _ (Kind : MapKind) (input : List ℕ) (a : Automaton) (game : List GameVertex) (initial : ℕ) (solution : List Answer)
    (k : IsKnown Kind input a game initial solution) where
  abbrev won_by : (player : Player) → winner solution initial ≡ player → IsWonFor Kind input player
  won_by player wins = record {
    automaton = a;
    spelt = k.spelt;
    is_automaton = k.is_automaton;
    game = game;
    limits = k.game_of.limits;
    initial = initial;
    solution = solution;
    solved = k.solved;
    won = record { game_of = k.game_of.is_game_of; begins = k.game_of.begins; solution_of = k.whole; sound = k.sound; wins = wins };
  }

  module _ (machine : Machine) (mealy : IsMealyOf a game initial solution (Some machine)) where
    pub realized_by : (circuit : Circuit) → ¬ IsTooLarge machine → IsCircuitOf machine circuit
        → IsRealized Kind input (realizable ++ circuit_text circuit a)
    realized_by circuit within of = record {
      circuit = circuit;
      realized = record { even = won_by Even mealy.0; machine = machine; follows = mealy.1; within = within; circuit_of = of };
      printed = refl;
    }

    pub large_by : IsTooLarge machine → HasLargeMachine Kind input
    large_by over = record { even = won_by Even mealy.0; machine = machine; follows = mealy.1; over = over }
