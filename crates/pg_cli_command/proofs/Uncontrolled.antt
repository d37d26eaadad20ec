-- Against each controller Odd's strategy makes an input word.
use Rattle.pg_cli_command.proofs.Common.{◌≡◌, ℕ, zero, suc, ◌*◌, ◌%◌, ◌<◌, inl, List, [], ◌∷◌, Option, Some, None, arith, refl, sym, subst, ap}
use Rattle.pg_cli_command.proofs.Common.{ap₂, ◌∙◌, mod-eq_of_lt, mod_below, pow_pos, Odd, GameVertex, vertex_at, choice, Formula, FitsShape}
use Rattle.pg_cli_command.proofs.Common.{Step, Automaton, IsAutomaton, next, IsWord, IsAccepted, step_from, target_of, state_after, joined}
use Rattle.pg_cli_command.proofs.Common.{inputs, StandsFor, IsGameOfAutomaton, IsPlaceOf, arrival_of, input_letters, place_in, arrival_after}
use Rattle.pg_cli_command.proofs.Common.{Traces, IsWonBy, Unrealizable, IsInputWord, HasChosenInputs, Place, Dead, Arrival, input_back, known}
use Rattle.pg_cli_command.proofs.Common.{letter_in, reached, one_vertex, the_play, inputs_before, controlled_word, NoController}
use Rattle.pg_text.specs.declared.answer.Answer as solutions
use Rattle.pg_synth.specs.declared.place.Place.TheVariants.{Answer}

-- the input letter of an answer
abbrev answered : Place → ℕ
answered Dead = 0
answered (Arrival q set) = 0
answered (Answer q i) = i

module _ (a : Automaton) (game : List GameVertex) (solution : List solutions.Answer) (controller : List ℕ → ℕ) (is : IsAutomaton a)
    (g : IsGameOfAutomaton a game) where
  -- what the controller makes of an input letter behind others, the last one first; and where it leads
  abbrev letter_after : List ℕ → ℕ → ℕ
  letter_after before i = joined a.controllable i (controller (i ∷ before))

  abbrev state_from : List ℕ → Option ℕ
  state_from [] = Some a.start
  state_from (i ∷ before) = target_of (step_from a (state_from before) (letter_after before i))

  abbrev arrival_from : List ℕ → Place
  arrival_from [] = Arrival a.start None
  arrival_from (i ∷ before) = arrival_of a.shape (step_from a (state_from before) (letter_after before i))

  state_below : (before : List ℕ) (q : ℕ) → state_from before ≡ Some q → q < a.states
  state_below [] q e = let f : a.start ≡ q = grind (arith, e) in let l = is.start_below in omega (arith, f, l)
  state_below (i ∷ before) q e = go (state_from before) (state_below before) e
    where
      there : (o : Option Step) (p : ℕ) → p < a.states → next a p (letter_after before i) ≡ o → target_of o ≡ Some q → q < a.states
      there None p below f e = absurd (cc e)
      there (Some step) p below f e =
          let h : step.target ≡ q = grind (arith, e) in
          let l = (is.steps p (letter_after before i) step below (letter_in a i (controller (i ∷ before)) is) f).target_below in
          omega (arith, h, l)

      go : (o : Option ℕ) → ((p : ℕ) → o ≡ Some p → p < a.states) → target_of (step_from a o (letter_after before i)) ≡ Some q
          → q < a.states
      go None h e = absurd (cc e)
      go (Some p) h e = there (next a p (letter_after before i)) p (h p refl) refl e

  arrival_is : (before : List ℕ) → IsPlaceOf a (arrival_from before)
  arrival_is [] = inl refl
  arrival_is (i ∷ before) = go (state_from before) (state_below before)
    where
      go : (o : Option ℕ) → ((q : ℕ) → o ≡ Some q → q < a.states) → IsPlaceOf a (arrival_of a.shape (step_from a o (letter_after before i)))
      go None h = tt
      go (Some q) h = reached a q (letter_after before i) (h q refl) (letter_in a i (controller (i ∷ before)) is)

  vertex_from : (before : List ℕ) → (v : ℕ) × StandsFor a game v (arrival_from before)
  vertex_from before = g.each_place (arrival_from before) (arrival_is before)

  -- the input letter that Odd chooses by going there
  abbrev input_to : Option ℕ → ℕ
  input_to None = 0
  input_to (Some w) = answered (place_in a (vertex_at game w).identifier) % input_letters a

  input_below : (o : Option ℕ) → input_to o < input_letters a
  input_below None = pow_pos (inputs a.controllable)
  input_below (Some w) = mod_below (answered (place_in a (vertex_at game w).identifier)) (input_letters a) (pow_pos (inputs a.controllable))

  abbrev chosen_after : List ℕ → ℕ
  chosen_after before = input_to (choice solution (vertex_from before).0)

  -- the input letters that Odd chooses, the last one first
  abbrev history : ℕ → List ℕ
  history zero = []
  history (suc t) = chosen_after (history t) ∷ history t

  abbrev input : ℕ → ℕ
  input t = chosen_after (history t)

  abbrev word : ℕ → ℕ
  word t = controlled_word a.controllable controller input t

  same_history : (t : ℕ) → inputs_before input t ≡ history t
  same_history zero = refl
  same_history (suc t) = ap (λ (before : List ℕ). input t ∷ before) (same_history t)

  word_is : (t : ℕ) → word t ≡ letter_after (history t) (input t)
  word_is t = ap (λ (before : List ℕ). letter_after before (input t)) (same_history t)

  state_is : (t : ℕ) → state_after a word t ≡ state_from (history t)
  state_is zero = refl
  state_is (suc t) = ap₂ (λ (o : Option ℕ) (l : ℕ). target_of (step_from a o l)) (state_is t) (word_is t)

  arrives : (t : ℕ) → arrival_after a word t ≡ arrival_from (history t)
  arrives zero = refl
  arrives (suc t) = ap₂ (λ (o : Option ℕ) (l : ℕ). arrival_of a.shape (step_from a o l)) (state_is t) (word_is t)

  has_chosen : (play : ℕ → ℕ) → Traces a game word play → HasChosenInputs a game solution word play
  has_chosen play traces t w q i some e s =
      let u = vertex_from (history t) in
      let here : play (2 * t) ≡ u.0 =
      one_vertex a game g.is_game (play (2 * t)) u.0 (arrival_from (history t))
      (subst (StandsFor a game (play (2 * t))) (arrives t) (traces.arrivals t)) u.1 in
      let chose : choice solution u.0 ≡ Some w = ap (choice solution) (sym here) ∙ e in
      let place : place_in a (vertex_at game w).identifier ≡ Answer q i =
      ap (place_in a) s.identified ∙ known a (Answer q i) s.is_place.1 in
      let is_i : input_to (Some w) ≡ i =
      ap (λ (x : Place). answered x % input_letters a) place ∙ mod-eq_of_lt s.is_place.1 in
      input_back a.controllable (input t) (controller (inputs_before input (suc t))) (input_below (choice solution u.0))
      ∙ (ap input_to chose ∙ is_i)

  pub unbeaten : Unrealizable → (initial : ℕ) (condition : Formula) → FitsShape condition a.sets a.shape → IsWonBy a game initial solution Odd
      → (letters : ℕ → ℕ) × IsInputWord a letters × (¬ IsAccepted a condition (controlled_word a.controllable controller letters))
  unbeaten unrealizable initial condition fits won =
      let is_word : IsWord a word = λ t. letter_in a (input t) (controller (inputs_before input (suc t))) is in
      let play = the_play a game word is g is_word in (
        input,
        (λ t. input_below (choice solution (vertex_from (history t)).0)),
        unrealizable a game initial solution condition word play.0 is fits won is_word play.1 (has_chosen play.0 play.1),
      )

pub no_controller : Unrealizable → NoController
no_controller unrealizable input output answer controller =
    let o = answer.odd in
    unbeaten o.automaton o.game o.solution controller o.is_automaton o.won.game_of unrealizable o.initial o.spelt.says.condition
    o.spelt.says.shape.fits o.won
