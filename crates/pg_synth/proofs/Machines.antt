-- Words of machines that follow a solution, and words with Odd's input letters.
use Rattle.pg_synth.proofs.Common.{◌≡◌, ℕ, zero, suc, ◌+◌, ◌*◌, ◌^◌, ◌<◌, ◌⊎◌, inl, inr, List, Option, Some, None, arith, refl, sym, subst}
use Rattle.pg_synth.proofs.Common.{ap, ◌∙◌, Player, Even, Odd, GameVertex, IsGame, priority, owner, opponent, IsPlay, WinsPlay, Counts}
use Rattle.pg_synth.proofs.Common.{IsSound, priority_bound, one_loser, safe_from_sound, wins, Step, Automaton, IsAutomaton, deciding}
use Rattle.pg_synth.proofs.Common.{Formula, FitsShape, IsWord, IsAccepted, step_from, step_at, target_of, state_after, IsSolution, winner}
use Rattle.pg_synth.proofs.Common.{choice, input_of, IsSynthGame, IsMealyOf, IsWonBy, Says, place_owner, arrival_of, Moves, StandsFor}
use Rattle.pg_synth.proofs.Common.{IsGameOfAutomaton, Machine, machine_state, machine_output, machine_word, FollowsAt, IsMachineOf}
use Rattle.pg_synth.proofs.Common.{IsInputWord, HasChosenInputs, arrival_after, answer_at, answer_after, Traces, Dead, Arrival, Answer}
use Rattle.pg_text.specs.declared.answer.Answer as solutions
use Rattle.pg_synth.proofs.Accepting.{shape_of_fits}
use Rattle.pg_synth.proofs.Deciding.{decides}
use Rattle.pg_synth.proofs.Letters.{input_back}
use Rattle.pg_synth.proofs.Places.{letter_in}
use Rattle.pg_synth.proofs.Trace.{one_vertex, the_play, halves}

abbrev Solution : Type 0
Solution = List solutions.Answer

not_both_win : (game : List GameVertex) (play : ℕ → ℕ) → WinsPlay Odd (λ u. priority game (play u)) → ¬ WinsPlay Even (λ u. priority game (play u))
not_both_win game play o e =
    let b = priority_bound game in (one_loser (λ u. priority game (play u)) b.0 (λ s. b.1 (play s))).not_neither (e, o)

-- a play of counted edges, from steps that count where the winner is still that of the start
counts_on : (game : List GameVertex) (solution : Solution) (play : ℕ → ℕ) (p : Player) → IsSound game solution
    → winner solution (play 0) ≡ p
    → ((u : ℕ) → winner solution (play u) ≡ p → Counts game solution (play u) (play (u + 1)))
    → IsPlay (Counts game solution) play
counts_on game solution play p sound e step u = step u (stays u)
  where
    stays : (u : ℕ) → winner solution (play u) ≡ p
    stays zero = e
    stays (suc u) =
        let f : u + 1 ≡ suc u = omega arith in
        subst (λ x. winner solution (play x) ≡ p) f
        ((safe_from_sound game solution sound).none_leaves (play u) (play (u + 1)) (step u (stays u)) ∙ stays u)

wins_start : (game : List GameVertex) (solution : Solution) (play : ℕ → ℕ) (p : Player) → IsGame game → IsSound game solution
    → winner solution (play 0) ≡ p → IsPlay (Counts game solution) play → WinsPlay p (λ u. priority game (play u))
wins_start game solution play p is sound e h =
    subst (λ q. WinsPlay q (λ u. priority game (play u))) e (wins game solution is sound (play 0) play refl h).1

-- ---- where Even wins

pub machine_accepted : (a : Automaton) (game : List GameVertex) (initial : ℕ) (solution : Solution) (numbering : ℕ → ℕ) (machine : Machine)
    (condition : Formula) (input : ℕ → ℕ) → IsAutomaton a → FitsShape condition a.sets a.shape → IsWonBy a game initial solution Even
    → IsMachineOf a game solution numbering machine → IsInputWord a input
    → IsAccepted a condition (machine_word a.controllable machine input)
machine_accepted a game initial solution numbering machine condition input is fits won follows inputs_in =
    (decides a game word play is letters_in condition (shape_of_fits condition a.sets a.shape fits) tr).1
    (wins_start game solution play Even g.is_game won.sound start_even (counts_on game solution play Even won.sound start_even step))
  where
    g : IsGameOfAutomaton a game
    g = won.game_of

    word : ℕ → ℕ
    word = machine_word a.controllable machine input

    letters_in : IsWord a word
    letters_in t = letter_in a (input t) (machine_output machine input t) is

    traced : (play : ℕ → ℕ) × Traces a game word play
    traced = the_play a game word is g letters_in

    play : ℕ → ℕ
    play = traced.0

    tr : Traces a game word play
    tr = traced.1

    start_even : winner solution (play 0) ≡ Even
    start_even =
        ap (winner solution) (one_vertex a game g.is_game (play 0) initial (Arrival a.start None) (tr.arrivals 0) won.begins) ∙ won.wins

    input_below : (t : ℕ) → input t < 2 ^ machine.inputs
    input_below t = subst (λ (n : ℕ). input t < 2 ^ n) (sym follows.same_inputs) (inputs_in t)

    k_in : (t : ℕ) → machine_state machine input t < machine.states
    k_in zero = follows.is_machine.has_start
    k_in (suc t) = follows.is_machine.nexts_in (machine_state machine input t) (input t) (k_in t) (input_below t)

    at : (t : ℕ) → FollowsAt a game solution (numbering (machine_state machine input t)) (input t)
        (machine_output machine input t) (numbering (machine_state machine input (suc t)))
    at t = follows.follows (machine_state machine input t) (input t) (k_in t) (inputs_in t)

    -- the run goes on, in the machine's states
    steps_from : (t : ℕ) → state_after a word t ≡ Some (numbering (machine_state machine input t)) → step_at a word t ≡ Some (at t).step
    steps_from t e = ap (λ o. step_from a o (word t)) e ∙ (at t).steps

    runs : (t : ℕ) → state_after a word t ≡ Some (numbering (machine_state machine input t))
    runs zero = ap Some (sym follows.starts)
    runs (suc t) = ap target_of (steps_from t (runs t)) ∙ ap Some (at t).lands

    steps : (t : ℕ) → step_at a word t ≡ Some (at t).step
    steps t = steps_from t (runs t)

    answers : (t : ℕ) → StandsFor a game (play (2 * t + 1)) (Answer (numbering (machine_state machine input t)) (input t))
    answers t =
        subst (StandsFor a game (play (2 * t + 1)))
        (ap (λ o. answer_at o (input_of a.controllable (word t))) (runs t)
        ∙ ap (Answer (numbering (machine_state machine input t))) (input_back a.controllable (input t) (machine_output machine input t) (inputs_in t)))
        (tr.answers t)

    owner_arrival : (t : ℕ) → owner game (play (2 * t)) ≡ Odd
    owner_arrival zero = (tr.arrivals 0).owned
    owner_arrival (suc t) = (tr.arrivals (suc t)).owned ∙ ap (λ o. place_owner (arrival_of a.shape o)) (steps t)

    step : (u : ℕ) → winner solution (play u) ≡ Even → Counts game solution (play u) (play (u + 1))
    step u e = elim (halves u) [
      | inl h ↦ (tr.goes_on u, inl (ap (λ x. owner game (play x)) h.1 ∙ owner_arrival h.0 ∙ sym (ap opponent e)))
      | inr h ↦
          let e' : winner solution (play (2 * h.0 + 1)) ≡ Even = subst (λ x. winner solution (play x) ≡ Even) h.1 e in
          let chosen = won.solution_of.chosen (play (2 * h.0 + 1)) (answers h.0).in_game ((answers h.0).owned ∙ sym e') in
          let there : StandsFor a game chosen.0 (arrival_of a.shape (Some (at h.0).step)) =
          (at h.0).chosen (play (2 * h.0 + 1)) chosen.0 (answers h.0) chosen.1 in
          let arrived : StandsFor a game (play (2 * suc h.0)) (arrival_of a.shape (Some (at h.0).step)) =
          subst (λ o. StandsFor a game (play (2 * suc h.0)) (arrival_of a.shape o)) (steps h.0) (tr.arrivals (suc h.0)) in
          let next : 2 * suc h.0 ≡ u + 1 = (let f : u ≡ 2 * h.0 + 1 = h.1 in omega arith) in
          let same : chosen.0 ≡ play (u + 1) =
          one_vertex a game g.is_game chosen.0 (play (2 * suc h.0)) (arrival_of a.shape (Some (at h.0).step)) there arrived ∙ ap play next in
          (tr.goes_on u, inr (ap (λ x. choice solution (play x)) h.1 ∙ chosen.1 ∙ ap Some same))
    ]

-- ---- where Odd wins

arrival_cases : (a : Automaton) (word : ℕ → ℕ) (t : ℕ)
    → ((arrival_after a word t ≡ Dead) × (answer_after a word t ≡ Dead))
    ⊎ ((q : ℕ) × (set : Option ℕ) × (arrival_after a word t ≡ Arrival q set) × (state_after a word t ≡ Some q))
arrival_cases a word zero = inr (a.start, None, refl, refl)
arrival_cases a word (suc t) = go (step_at a word t) refl
  where
    go : (o : Option Step) → step_at a word t ≡ o
        → ((arrival_of a.shape o ≡ Dead) × (answer_at (target_of o) (input_of a.controllable (word (suc t))) ≡ Dead))
        ⊎ ((q : ℕ) × (set : Option ℕ) × (arrival_of a.shape o ≡ Arrival q set) × (target_of o ≡ Some q))
    go None e = inl (refl, refl)
    go (Some step) e = inr (step.target, deciding a.shape step.sets, refl, refl)

pub unrealizable : (a : Automaton) (game : List GameVertex) (initial : ℕ) (solution : Solution) (condition : Formula) (word play : ℕ → ℕ)
    → IsAutomaton a → FitsShape condition a.sets a.shape → IsWonBy a game initial solution Odd → IsWord a word
    → Traces a game word play → HasChosenInputs a game solution word play → ¬ IsAccepted a condition word
unrealizable a game initial solution condition word play is fits won letters_in tr chosen accepted =
    not_both_win game play
    (wins_start game solution play Odd g.is_game won.sound start_odd (counts_on game solution play Odd won.sound start_odd step))
    ((decides a game word play is letters_in condition (shape_of_fits condition a.sets a.shape fits) tr).0 accepted)
  where
    g : IsGameOfAutomaton a game
    g = won.game_of

    start_odd : winner solution (play 0) ≡ Odd
    start_odd =
        ap (winner solution) (one_vertex a game g.is_game (play 0) initial (Arrival a.start None) (tr.arrivals 0) won.begins) ∙ won.wins

    -- dead has one successor
    dead_step : (u v : ℕ) → StandsFor a game u Dead → StandsFor a game v Dead → winner solution u ≡ Odd → choice solution u ≡ Some v
    dead_step u v here there e =
        let c = won.solution_of.chosen u here.in_game (here.owned ∙ sym e) in
        let y = (g.edges u c.0 Dead here).0 c.2 in
        c.1 ∙ ap Some (one_vertex a game g.is_game c.0 v Dead (subst (StandsFor a game c.0) y.1 y.2) there)

    arrival_step : (t : ℕ) → winner solution (play (2 * t)) ≡ Odd → choice solution (play (2 * t)) ≡ Some (play (2 * t + 1))
    arrival_step t e = elim (arrival_cases a word t) [
      | inl h ↦ dead_step (play (2 * t)) (play (2 * t + 1))
          (subst (StandsFor a game (play (2 * t))) h.0 (tr.arrivals t))
          (subst (StandsFor a game (play (2 * t + 1))) h.1 (tr.answers t)) e
      | inr h ↦
          let here : StandsFor a game (play (2 * t)) (Arrival h.0 h.1) = subst (StandsFor a game (play (2 * t))) h.2 (tr.arrivals t) in
          let c = won.solution_of.chosen (play (2 * t)) here.in_game (here.owned ∙ sym e) in
          let y = (g.edges (play (2 * t)) c.0 (Arrival h.0 h.1) here).0 c.2 in
          let move : Moves a (Arrival h.0 h.1) y.0 = y.1 in
          let at : StandsFor a game c.0 (Answer h.0 move.0) = subst (StandsFor a game c.0) move.2 y.2 in
          let same : input_of a.controllable (word t) ≡ move.0 = chosen t c.0 h.0 move.0 (rw h.3 refl) c.1 at in
          let mine : StandsFor a game (play (2 * t + 1)) (Answer h.0 move.0) =
          subst (StandsFor a game (play (2 * t + 1)))
          (ap (λ o. answer_at o (input_of a.controllable (word t))) h.3 ∙ ap (Answer h.0) same) (tr.answers t) in
          c.1 ∙ ap Some (one_vertex a game g.is_game c.0 (play (2 * t + 1)) (Answer h.0 move.0) at mine)
    ]

    answer_cases : (t : ℕ) → ((answer_after a word t ≡ Dead) × (arrival_after a word (suc t) ≡ Dead))
        ⊎ (owner game (play (2 * t + 1)) ≡ Even)
    answer_cases t = go (state_after a word t) refl
      where
        go : (o : Option ℕ) → state_after a word t ≡ o
            → ((answer_after a word t ≡ Dead) × (arrival_after a word (suc t) ≡ Dead))
            ⊎ (owner game (play (2 * t + 1)) ≡ Even)
        go None e = inl (
          ap (λ o. answer_at o (input_of a.controllable (word t))) e,
          ap (λ o. arrival_of a.shape (step_from a o (word t))) e,
        )
        go (Some q) e = inr ((tr.answers t).owned ∙ ap (λ o. place_owner (answer_at o (input_of a.controllable (word t)))) e)

    step : (u : ℕ) → winner solution (play u) ≡ Odd → Counts game solution (play u) (play (u + 1))
    step u e = elim (halves u) [
      | inl h ↦
          let e' : winner solution (play (2 * h.0)) ≡ Odd = subst (λ x. winner solution (play x) ≡ Odd) h.1 e in
          (tr.goes_on u, inr (subst (λ x. choice solution (play x) ≡ Some (play (x + 1))) (sym h.1) (arrival_step h.0 e')))
      | inr h ↦
          let e' : winner solution (play (2 * h.0 + 1)) ≡ Odd = subst (λ x. winner solution (play x) ≡ Odd) h.1 e in
          let next : 2 * suc h.0 ≡ u + 1 = (let f : u ≡ 2 * h.0 + 1 = h.1 in omega arith) in
          elim (answer_cases h.0) [
            | inl d ↦ (
              tr.goes_on u,
              inr (ap (λ x. choice solution (play x)) h.1
                  ∙ dead_step (play (2 * h.0 + 1)) (play (2 * suc h.0))
                  (subst (StandsFor a game (play (2 * h.0 + 1))) d.0 (tr.answers h.0))
                  (subst (StandsFor a game (play (2 * suc h.0))) d.1 (tr.arrivals (suc h.0))) e'
                  ∙ ap (λ x. Some (play x)) next),
            )
            | inr o ↦ (tr.goes_on u, inl (ap (λ x. owner game (play x)) h.1 ∙ o ∙ sym (ap opponent e)))
          ]
    ]

-- ---- what is answered

won_by : (a : Automaton) (game : List GameVertex) (initial : ℕ) (solution : Solution) (p : Player) → IsSynthGame a game initial
    → IsSolution game solution → IsSound game solution → winner solution initial ≡ p → IsWonBy a game initial solution p
won_by a game initial solution p made answers sound e =
    record { game_of = made.is_game_of; begins = made.begins; solution_of = answers; sound = sound; wins = e }

pub answer_holds : (a : Automaton) (game : List GameVertex) (initial : ℕ) (solution : Solution) (condition : Formula) (answer : Option Machine)
    → IsAutomaton a → FitsShape condition a.sets a.shape → IsSynthGame a game initial → IsSolution game solution
    → IsSound game solution → IsMealyOf a game initial solution answer → Says a game solution condition answer
answer_holds a game initial solution condition None is fits made answers sound e = λ word play.
    unrealizable a game initial solution condition word play is fits (won_by a game initial solution Odd made answers sound e)
answer_holds a game initial solution condition (Some machine) is fits made answers sound (e, (numbering, follows, order)) = λ input.
    machine_accepted a game initial solution numbering machine condition input is fits
    (won_by a game initial solution Even made answers sound e) follows
