use Rattle.pg_check.proofs.Common.{rules, ◌≡◌, ℕ, ◌<◌, List, length, Some, inl, inr, refl, get_or, arith, below_more, Player, Even, Odd, GameVertex, IsEdge}
use Rattle.pg_check.proofs.Common.{IsGame, opponent, owner, Answer, choice, winner, Counts, GoesOn, IsOnSide, IsOrder, IsSoundSolution, NoneLeaves}
use Rattle.pg_check.proofs.Common.{Span}
use Rattle.pg_check.proofs.Checking.{sound_of}
use Rattle.pg_check.proofs.Cycles.{edge_from}
use Rattle.pg_check.proofs.Ordered.{ordered_has_none}
use Rattle.pg_check.proofs.shown.is_shown.Goals as goal

not_both : (own won : Player) → own ≡ won → own ≡ opponent won → ⊥
not_both own Even is other = (cc)
not_both own Odd is other = (cc)

chosen_of : (game : List GameVertex) (solution : List Answer) (v : ℕ) → (w : ℕ) × Counts game solution v w → owner game v ≡ winner solution v
    → (w : ℕ) × (choice solution v ≡ Some w) × IsEdge game v w
chosen_of game solution v (w, (edge, inl other)) own = absurd (not_both (owner game v) (winner solution v) own other)
chosen_of game solution v (w, (edge, inr chosen)) own = (w, chosen, edge)

one_side : (split : ℕ) (p q : Player) (place : ℕ) → IsOnSide split p place → IsOnSide split q place → p ≡ q
one_side split Even Even place first second = refl
one_side split Odd Odd place first second = refl
one_side split Even Odd place first second = absurd (omega arith)
one_side split Odd Even place first second = absurd (omega arith)

shown_sound : (game : List GameVertex) (solution : List Answer) (places : List ℕ) (spans : List Span) (split : ℕ) → IsGame game
    → length solution ≡ length game → IsOrder game solution places spans → ((v : ℕ) → v < length game → GoesOn game solution places split v)
    → IsSoundSolution game solution
shown_sound game solution places spans split is_game whole order goes_on =
    let none_leaves : NoneLeaves game solution = λ v w counts.
    one_side split (winner solution w) (winner solution v) (get_or places w 0) (goes_on w (is_game.in_range v w counts.0)).side
    ((goes_on v (edge_from game v w counts.0)).stays w counts) in
    record {
      choices = record { whole = whole; chosen = λ v lt own. chosen_of game solution v (goes_on v lt).some own };
      elsewhere = λ v lt. (goes_on v lt).elsewhere;
      sound = sound_of game solution is_game none_leaves (ordered_has_none game solution places spans is_game none_leaves order);
    }

pub loop-number-preserved : goal.loop-number-preserved
loop-number-preserved c = record {
  stands = below_more _ _ c.loop-number.invariant.stands c.if-not-stands.ensures;
  goes_on = below_more _ _ c.loop-number.invariant.goes_on c.if-not-goes_on.ensures;
}

pub returns : goal.returns
returns c =
    shown_sound c.args.game.now c.args.solution.now c.args.order.now.places.items c.args.order.now.spans.items c.args.split c.len-number-end.ensures.game c.requires
    (record { nested = search rules; stands = λ v lt. c.loop-number.invariant.stands v (omega arith) })
    (λ v lt. c.loop-number.invariant.goes_on v (omega arith))
