-- What Even does at the answers that it wins.
use Rattle.pg_synth.proofs.Common.{◌≡◌, ℕ, zero, suc, ◌+◌, ◌%◌, ◌<◌, ◌≤◌, inl, inr, List, [], length, Option, Some, None, arith, refl, sym}
use Rattle.pg_synth.proofs.Common.{subst, ap, ◌∙◌, cases_lt, All-nil, pow_pos, Even, GameVertex, HasParityOf, vertex_at, priority, opponent}
use Rattle.pg_synth.proofs.Common.{IsEdge, Counts, IsSound, safe_from_sound, bad_cycle_from, IsSolution, winner, choice, Step, Automaton}
use Rattle.pg_synth.proofs.Common.{IsAutomaton, next, deciding, joined, inputs, StandsFor, IsGameOfAutomaton, Moves, arrival_of}
use Rattle.pg_synth.proofs.Common.{input_letters, output_letters, place_identifier, FollowsAt, IsLeastIfAny, IsWonAt, Dead, Arrival, Answer}
use Rattle.pg_text.specs.declared.answer.Answer as solutions
use Rattle.pg_synth.specs.Mirrors.Drafts.{IsLeast}
use Rattle.pg_synth.proofs.Places.{letter_in, reached}
use Rattle.pg_synth.proofs.Trace.{in_order, one_number, one_vertex}

abbrev Solution : Type 0
Solution = List solutions.Answer

-- ---- the answers at a state are vertices in a row

next_answer : (a : Automaton) (game : List GameVertex) (q i v : ℕ) → IsGameOfAutomaton a game → StandsFor a game v (Answer q i)
    → suc i < input_letters a → StandsFor a game (suc v) (Answer q (suc i))
next_answer a game q i v g here l =
    let there = g.each_place (Answer q (suc i)) (here.is_place.0, l) in
    let u : ℕ = there.0 in
    let above : (vertex_at game u).identifier ≡ suc (vertex_at game v).identifier =
    (let e = here.identified in let f = there.1.identified in omega arith) in
    subst (λ (w : ℕ). StandsFor a game w (Answer q (suc i))) (go u there.1.in_game above) there.1
  where
    go : (u : ℕ) → u < length game → (vertex_at game u).identifier ≡ suc (vertex_at game v).identifier → u ≡ suc v
    go u in_game above = elim (cases_lt v u) [
      | inl less ↦ elim (cases_lt (suc v) u) [
        | inl more ↦
            let one = in_order game g.is_game v (suc v) (omega arith) (omega arith) in
            let two = in_order game g.is_game (suc v) u more in_game in absurd (omega (arith, one, two, above))
        | inr le ↦ omega arith
      ]
      | inr le ↦ elim (cases_lt u v) [
        | inl less ↦ (let one = in_order game g.is_game u v less here.in_game in absurd (omega (arith, one, above)))
        | inr le' ↦ (let same : u ≡ v = omega arith in let e = ap (λ x. (vertex_at game x).identifier) same in absurd (omega (arith, e, above)))
      ]
    ]

pub in_a_row : (a : Automaton) (game : List GameVertex) (q v i : ℕ) → IsGameOfAutomaton a game → StandsFor a game v (Answer q 0)
    → i < input_letters a → StandsFor a game (v + i) (Answer q i)
in_a_row a game q v zero g here l = subst (λ (w : ℕ). StandsFor a game w (Answer q 0)) (omega arith) here
in_a_row a game q v (suc i) g here l =
    subst (λ (w : ℕ). StandsFor a game w (Answer q (suc i))) (omega arith)
    (next_answer a game q i (v + i) g (in_a_row a game q v i g here (omega arith)) l)

-- the first of them is found by its identifier
pub first_of_row : (a : Automaton) (game : List GameVertex) (q n : ℕ) (found : Option ℕ) → IsGameOfAutomaton a game → q < a.states
    → n ≡ place_identifier a (Answer q 0) → ((v : ℕ) → v < length game → (vertex_at game v).identifier ≡ n → found ≡ Some v)
    → (v : ℕ) × (found ≡ Some v) × StandsFor a game v (Answer q 0)
first_of_row a game q n found g below e only =
    let u = g.each_place (Answer q 0) (below, pow_pos (inputs a.controllable)) in
    (u.0, only u.0 u.1.in_game (u.1.identified ∙ sym e), u.1)

-- ---- a sound solution

pub dead_is_lost : (a : Automaton) (game : List GameVertex) (solution : Solution) (v : ℕ) → IsGameOfAutomaton a game → IsSound game solution
    → StandsFor a game v Dead → ¬ (winner solution v ≡ Even)
dead_is_lost a game solution v g sound here won =
    let edge : IsEdge game v v = (g.edges v v Dead here).1 (Dead, refl, here) in
    let step : Counts game solution v v = (edge, inl (here.owned ∙ sym (ap opponent won))) in
    (safe_from_sound game solution sound).no_bad_cycle v []
    (bad_cycle_from game solution v [] (record {
      closes = (step, tt);
      greatest = All-nil (λ w. priority game w ≤ priority game v);
      lost = subst (λ q. HasParityOf (opponent q) (priority game v)) (sym won) (ap (λ n. n % 2) here.prioritised);
    }))

pub answers_won : (a : Automaton) (game : List GameVertex) (solution : Solution) (u q : ℕ) (set : Option ℕ) → IsGameOfAutomaton a game
    → IsSound game solution → StandsFor a game u (Arrival q set) → winner solution u ≡ Even → IsWonAt a game solution q
answers_won a game solution u q set g sound here won i v there =
    let edge : IsEdge game u v = (g.edges u v (Arrival q set) here).1 (Answer q i, (i, there.is_place.1, refl), there) in
    (safe_from_sound game solution sound).none_leaves u v (edge, inl (here.owned ∙ sym (ap opponent won))) ∙ won

-- what Even chooses at an answer that it wins
pub record IsChosen (a : Automaton) (game : List GameVertex) (solution : Solution) (q i w : ℕ) : Type 0 where
  pub in_game : w < length game
  pub wins : winner solution w ≡ Even
  pub output : ℕ
  pub output_in : output < output_letters a
  pub stands : StandsFor a game w (arrival_of a.shape (next a q (joined a.controllable i output)))

pub chosen_is : (a : Automaton) (game : List GameVertex) (solution : Solution) (q i v w : ℕ) → IsGameOfAutomaton a game
    → IsSolution game solution → IsSound game solution → StandsFor a game v (Answer q i) → winner solution v ≡ Even → choice solution v ≡ Some w
    → IsChosen a game solution q i w
chosen_is a game solution q i v w g answers sound here won e =
    let c = answers.chosen v here.in_game (here.owned ∙ sym won) in
    let both : Some c.0 ≡ Some w = sym c.1 ∙ e in
    let same : c.0 ≡ w = cc in
    let edge : IsEdge game v w = subst (IsEdge game v) same c.2 in
    let y = (g.edges v w (Answer q i) here).0 edge in
    let move : Moves a (Answer q i) y.0 = y.1 in
    record {
      in_game = y.2.in_game;
      wins = (safe_from_sound game solution sound).none_leaves v w (edge, inr e) ∙ won;
      output = move.0;
      output_in = move.1;
      stands = subst (StandsFor a game w) move.2 y.2;
    }

-- the least output letter that leads to the identifier of the chosen successor is there
pub least_is : (a : Automaton) (game : List GameVertex) (solution : Solution) (q i w n : ℕ) (output : Option ℕ)
    → IsChosen a game solution q i w → n ≡ (vertex_at game w).identifier → IsLeastIfAny a q i n output → (o : ℕ) × (output ≡ Some o)
least_is a game solution q i w n None chosen e none =
    absurd (none chosen.output chosen.output_in (sym chosen.stands.identified ∙ sym e))
least_is a game solution q i w n (Some o) chosen e least = (o, refl)

-- where it leads
pub record IsLed (a : Automaton) (game : List GameVertex) (solution : Solution) (q i output : ℕ) : Type 0 where
  pub step : Step
  pub steps : next a q (joined a.controllable i output) ≡ Some step
  pub follows : FollowsAt a game solution q i output step.target
  pub won : IsWonAt a game solution step.target
  pub below : step.target < a.states

pub led_on : (a : Automaton) (game : List GameVertex) (solution : Solution) (q i v w n output : ℕ) → IsAutomaton a → IsGameOfAutomaton a game
    → IsSound game solution → StandsFor a game v (Answer q i) → choice solution v ≡ Some w → IsChosen a game solution q i w
    → n ≡ (vertex_at game w).identifier → IsLeast a q i n output → IsLed a game solution q i output
led_on a game solution q i v w n output is g sound here choice_is chosen e least = go (next a q letter) refl
  where
    letter : ℕ
    letter = joined a.controllable i output

    there : StandsFor a game w (arrival_of a.shape (next a q letter))
    there =
        let place = reached a q letter here.is_place.0 (letter_in a i output is) in
        let u = g.each_place (arrival_of a.shape (next a q letter)) place in
        let same : u.0 ≡ w = one_number game g.is_game u.0 w u.1.in_game chosen.in_game (u.1.identified ∙ least.leads ∙ e) in
        subst (λ (x : ℕ). StandsFor a game x (arrival_of a.shape (next a q letter))) same u.1

    go : (o : Option Step) → next a q letter ≡ o → IsLed a game solution q i output
    go None f = absurd (dead_is_lost a game solution w g sound (subst (λ o. StandsFor a game w (arrival_of a.shape o)) f there) chosen.wins)
    go (Some step) f =
        let arrived : StandsFor a game w (Arrival step.target (deciding a.shape step.sets)) = subst (λ o. StandsFor a game w (arrival_of a.shape o)) f there in
        let only : (v' w' : ℕ) → StandsFor a game v' (Answer q i) → choice solution v' ≡ Some w' → w ≡ w' =
        (λ v' w' s c'.
        let same = one_vertex a game g.is_game v v' (Answer q i) here s in
        let both : Some w ≡ Some w' = sym choice_is ∙ ap (choice solution) same ∙ c' in cc) in
        record {
          step = step;
          steps = f;
          follows = record {
            output_in = least.output_in;
            step = step;
            steps = f;
            lands = refl;
            chosen = λ v' w' s c'. subst (λ (x : ℕ). StandsFor a game x (arrival_of a.shape (Some step))) (only v' w' s c') arrived;
            least = λ v' w' o s c' t.
                least.least o (sym t.identified ∙ ap (λ x. (vertex_at game x).identifier) (sym (only v' w' s c')) ∙ sym e);
          };
          won = answers_won a game solution w step.target (deciding a.shape step.sets) g sound arrived chosen.wins;
          below = (is.steps q letter step here.is_place.0 (letter_in a i output is) f).target_below;
        }
