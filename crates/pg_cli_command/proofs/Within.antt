-- What `synth` answers is within its limits and, by least progress measures, one for an input.
use Rattle.pg_cli_command.proofs.Common.{◌≡◌, List, ℕ, ◌++◌, subst, sym, ap₂, ◌∙◌, inl, inr, Player, Even, GameVertex, IsWithinLimits, Answer}
use Rattle.pg_cli_command.proofs.Common.{OneWinner, OneListOfBounds, ClosedIsLeast, Automaton, OneReading, Machine, Follows, OneMachine}
use Rattle.pg_cli_command.proofs.Common.{one_game, IsGameOfAutomaton, Circuit, circuit_text, OneCircuit, MapKind, IsMeasureOf, IsClosedMapOf}
use Rattle.pg_cli_command.proofs.Common.{IsSolvedBy, IsTooLarge, realizable, IsWonFor, IsRealized, IsSynthesised, HasLargeMachine}
use Rattle.pg_cli_command.proofs.Common.{AnswersWithinLimits}
use Rattle.pg_aiger.specs.Machines as circuit
use Rattle.pg_cli_command.proofs.One.{one_made, one_solved}
use Rattle.pg_cli_command.proofs.Realized.{one_player}

-- a game that a player wins is within the limits, and the input has no other
won_within : OneReading → (Kind : MapKind) (input : List ℕ) (player : Player) → IsWonFor Kind input player → ¬ IsTooLarge input
won_within reading Kind input player w large =
    let same : w.game ≡ large.game =
    one_made reading input w.game large.game (record { automaton = w.automaton; spelt = w.spelt; game_of = w.won.game_of }) large.made in
    large.over (subst IsWithinLimits same w.limits)

answered_within : OneReading → (Kind : MapKind) (input output : List ℕ) → IsSynthesised Kind input output → ¬ IsTooLarge input
answered_within reading Kind input output (inl r) = won_within reading Kind input Even r.realized.even
answered_within reading Kind input output (inr u) = won_within reading Kind input _ u.odd

-- there is one machine that Even wins by, and so one circuit of it
module _ (reading : OneReading) (one_bounds : OneListOfBounds) (least : ClosedIsLeast) (one_machine : OneMachine) where
  same_machine : (input : List ℕ) (e l : IsWonFor IsMeasureOf input Even) (machine other : Machine)
      → Follows e.automaton e.game e.solution machine → Follows l.automaton l.game l.solution other → other ≡ machine
  same_machine input e l machine other follows other_follows =
      let automaton : l.automaton ≡ e.automaton = (reading input).automaton l.automaton e.automaton l.spelt e.spelt in
      let of_other : IsGameOfAutomaton e.automaton l.game = subst (λ (a : Automaton). IsGameOfAutomaton a l.game) automaton l.won.game_of in
      let game : l.game ≡ e.game = one_game e.automaton l.game e.game of_other e.won.game_of in
      let solved : IsSolvedBy IsMeasureOf e.game l.solution = subst (λ (g : List GameVertex). IsSolvedBy IsMeasureOf g l.solution) game l.solved in
      let solution : l.solution ≡ e.solution = one_solved one_bounds least e.game l.solution e.solution solved e.solved in
      let moved : Follows e.automaton e.game e.solution other =
      subst (λ (s : List Answer). Follows e.automaton e.game s other) solution
      (subst (λ (g : List GameVertex). Follows e.automaton g l.solution other) game
      (subst (λ (a : Automaton). Follows a l.game l.solution other) automaton other_follows)) in
      one_machine e.automaton e.game e.initial e.solution machine other e.is_automaton e.won follows moved

  -- so it isn't too large where it has a circuit
  realized_within : (input output : List ℕ) → IsRealized IsMeasureOf input output → ¬ HasLargeMachine IsMeasureOf input
  realized_within input output r large =
      r.realized.within (subst circuit.IsTooLarge
      (same_machine input r.realized.even large.even r.realized.machine large.machine r.realized.follows large.follows) large.over)

  one_realized : OneCircuit → (input first second : List ℕ) → IsRealized IsMeasureOf input first → IsRealized IsMeasureOf input second
      → first ≡ second
  one_realized one_circuit input first second p q =
      let e = p.realized.even in
      let l = q.realized.even in
      let automaton : l.automaton ≡ e.automaton = (reading input).automaton l.automaton e.automaton l.spelt e.spelt in
      let machine : q.realized.machine ≡ p.realized.machine =
      same_machine input e l p.realized.machine q.realized.machine p.realized.follows q.realized.follows in
      let same : q.circuit ≡ p.circuit =
      one_circuit p.realized.machine q.circuit p.circuit
      (subst (λ (m : Machine). circuit.IsCircuitOf m q.circuit) machine q.realized.circuit_of) p.realized.circuit_of in
      p.printed ∙ sym (ap₂ (λ (c : Circuit) (a : Automaton). realizable ++ circuit_text c a) same automaton) ∙ sym q.printed

-- an input has one answer
pub one_synthesised : OneReading → OneWinner → OneListOfBounds → ClosedIsLeast → OneMachine → OneCircuit → (input first second : List ℕ)
    → IsSynthesised IsMeasureOf input first → IsSynthesised IsMeasureOf input second → first ≡ second
one_synthesised reading one_winner one_bounds least one_machine one_circuit input first second (inl p) (inl q) =
    one_realized reading one_bounds least one_machine one_circuit input first second p q
one_synthesised reading one_winner one_bounds least one_machine one_circuit input first second (inl p) (inr q) =
    absurd (one_player reading one_winner IsMeasureOf input p.realized.even q.odd)
one_synthesised reading one_winner one_bounds least one_machine one_circuit input first second (inr p) (inl q) =
    absurd (one_player reading one_winner IsMeasureOf input q.realized.even p.odd)
one_synthesised reading one_winner one_bounds least one_machine one_circuit input first second (inr p) (inr q) = p.printed ∙ sym q.printed

pub answers_within_limits : OneReading → OneWinner → OneListOfBounds → ClosedIsLeast → OneMachine → AnswersWithinLimits
answers_within_limits reading one_winner one_bounds least one_machine = record {
  game = answered_within reading IsClosedMapOf;
  machine = λ input output answer large. elim answer [
    | inl r ↦ realized_within reading one_bounds least one_machine input output r large
    | inr u ↦ one_player reading one_winner IsMeasureOf input large.even u.odd
  ];
}
