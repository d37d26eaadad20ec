-- Where all priorities are one player's, that player wins everywhere, by whatever successors.
use Rattle.pg_check.proofs.Common.{◌≡◌, ◌<◌, ◌≤◌, ◌++◌, ◌∷◌, [], ℕ, List, length, None, Option, Some, arith, sym, subst, ◌∙◌, Player, Even, Odd, GameVertex}
use Rattle.pg_check.proofs.Common.{HasParityOf, IsGame, IsPath, opponent, owner, priority, Answer, answer_at, choice, loser, winner, Counts, NoneLeaves}
use Rattle.pg_check.proofs.Common.{HasNoBadCycle, IsSoundSolution}
use Rattle.pg_check.specs.Mirrors.Orders.{AllHaveParityOf, IsAnyChoice}
use Rattle.pg_check.proofs.Checking.{sound_of}
use Rattle.pg_check.proofs.Chosen.{AnswersUpto}
use Rattle.pg_check.proofs.Cycles.{edge_from}

-- the player wins at v, by any successor where it owns v
pub record WinsAnyhow (game : List GameVertex) (player : Player) (v : ℕ) (answer : Answer) : Type 0 where
  pub wins : answer.winner ≡ player
  pub chooses : IsAnyChoice game player v answer.choice

not_both : (player : Player) (p : ℕ) → HasParityOf player p → HasParityOf (opponent player) p → ⊥
not_both Even p own other = absurd (omega (arith, own, other))
not_both Odd p own other = absurd (omega (arith, own, other))

starts : (game : List GameVertex) (solution : List Answer) (v : ℕ) (ws : List ℕ) → IsPath (Counts game solution) v (ws ++ v ∷ []) → v < length game
starts game solution v [] path = edge_from game v v path.0.0
starts game solution v (w ∷ ws) path = edge_from game v w path.0.0

pub wins_anyhow : (game : List GameVertex) (player : Player) (solution : List Answer) (i : ℕ) → IsGame game → AllHaveParityOf player game
    → length game ≤ i → AnswersUpto game (WinsAnyhow game player) solution i → IsSoundSolution game solution
wins_anyhow game player solution i is_game all done upto =
    let wins : (v : ℕ) → v < length game → winner solution v ≡ player = λ v lt. (upto.answers v (omega arith)).wins in
    let none_leaves : NoneLeaves game solution = λ v w counts.
    wins w (is_game.in_range v w counts.0) ∙ sym (wins v (edge_from game v w counts.0)) in
    let none : HasNoBadCycle game solution = λ v lost rest cycle.
    (let lt = starts game solution v rest cycle.closes in
    not_both player (priority game v) (all v lt) (subst (λ (p : Player). HasParityOf (opponent p) (priority game v)) (wins v lt) lost)) in
    record {
      choices = record { whole = upto.whole; chosen = λ v lt own. (upto.answers v (omega arith)).chooses.own (own ∙ wins v lt) };
      elsewhere = λ v lt lost. (upto.answers v (omega arith)).chooses.elsewhere
          (subst (λ (p : Player). owner game v ≡ opponent p) (wins v lt) lost);
      sound = sound_of game solution is_game none_leaves none;
    }
