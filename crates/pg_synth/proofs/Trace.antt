-- The play that a word traces.
use Rattle.pg_synth.proofs.Common.{◌≡◌, ℕ, zero, suc, ◌+◌, ◌*◌, ◌-◌, ◌/◌, ◌%◌, ◌^◌, ◌<◌, ◌≤◌, ◌⊎◌, inl, inr, cond, eqb, List, [], ◌∷◌}
use Rattle.pg_synth.proofs.Common.{length, slice_index_or, Option, Some, None, arith, refl, sym, subst, ap, ◌∙◌, cases_lt, cases_eq}
use Rattle.pg_synth.proofs.Common.{AllPairs-from_increasing, GameVertex, IsGame, IsEdge, vertex_at, identifiers, Step, Automaton}
use Rattle.pg_synth.proofs.Common.{IsAutomaton, next, input_of, output_of, IsWord, step_from, step_at, target_of, state_after, arrival_of}
use Rattle.pg_synth.proofs.Common.{IsPlaceOf, IsArrival, Moves, StandsFor, IsGameOfAutomaton, arrival_after, answer_at, answer_after}
use Rattle.pg_synth.proofs.Common.{Traces, Place, Dead}
use Rattle.pg_synth.proofs.Letters.{whole, input_in, output_in}

-- ---- two vertices of one place are one

pub identifiers_long : (game : List GameVertex) → length (identifiers game) ≡ length game
identifiers_long [] = refl
identifiers_long (x ∷ xs) = ap suc (identifiers_long xs)

pub identifier_at : (game : List GameVertex) (v : ℕ) → v < length game → slice_index_or (identifiers game) v 0 ≡ (vertex_at game v).identifier
identifier_at [] v l = absurd (omega arith)
identifier_at (x ∷ xs) zero l = refl
identifier_at (x ∷ xs) (suc v) l = identifier_at xs v (omega arith)

pub in_order : (game : List GameVertex) → IsGame game → (v w : ℕ) → v < w → w < length game
    → (vertex_at game v).identifier < (vertex_at game w).identifier
in_order game g v w lt within =
    let long = identifiers_long game in
    let up = AllPairs-from_increasing (identifiers game) g.rising v w 0 lt (omega arith) in
    let at_v = identifier_at game v (omega arith) in
    let at_w = identifier_at game w within in
    omega (arith, up, at_v, at_w)

pub one_number : (game : List GameVertex) → IsGame game → (v w : ℕ) → v < length game → w < length game
    → (vertex_at game v).identifier ≡ (vertex_at game w).identifier → v ≡ w
one_number game g v w here there same = elim (cases_lt v w) [
  | inl l ↦ (let lt = in_order game g v w l there in omega (arith, lt, same))
  | inr le ↦ elim (cases_lt w v) [
    | inl l ↦ (let lt = in_order game g w v l here in omega (arith, lt, same))
    | inr le' ↦ omega arith
  ]
]

pub one_vertex : (a : Automaton) (game : List GameVertex) → IsGame game
    → (v w : ℕ) (x : Place) → StandsFor a game v x → StandsFor a game w x → v ≡ w
one_vertex a game g v w x here there =
    one_number game g v w here.in_game there.in_game (here.identified ∙ sym there.identified)

-- ---- every place that is traced is in the game

pub state_in : (a : Automaton) (word : ℕ → ℕ) → IsAutomaton a → IsWord a word → (t q : ℕ)
    → state_after a word t ≡ Some q → q < a.states
state_in a word is letters_in zero q e = let f : a.start ≡ q = grind (arith, e) in let l = is.start_below in omega (arith, f, l)
state_in a word is letters_in (suc t) q e = go (state_after a word t) (state_in a word is letters_in t) e
  where
    there : (o : Option Step) (p : ℕ) → p < a.states → next a p (word t) ≡ o → target_of o ≡ Some q → q < a.states
    there None p below f e = absurd (cc e)
    there (Some step) p below f e =
        let g : step.target ≡ q = grind (arith, e) in
        let l = (is.steps p (word t) step below (letters_in t) f).target_below in omega (arith, g, l)

    go : (o : Option ℕ) → ((p : ℕ) → o ≡ Some p → p < a.states) → target_of (step_from a o (word t)) ≡ Some q → q < a.states
    go None h e = absurd (cc e)
    go (Some p) h e = there (next a p (word t)) p (h p refl) refl e

in_arrived : (a : Automaton) (o : Option Step) → IsArrival a (arrival_of a.shape o) → IsPlaceOf a (arrival_of a.shape o)
in_arrived a None h = tt
in_arrived a (Some step) h = h

pub arrival_in : (a : Automaton) (word : ℕ → ℕ) → IsAutomaton a → IsWord a word → (t : ℕ)
    → IsPlaceOf a (arrival_after a word t)
arrival_in a word is letters_in zero = inl refl
arrival_in a word is letters_in (suc t) = go (state_after a word t) (state_in a word is letters_in t)
  where
    go : (o : Option ℕ) → ((q : ℕ) → o ≡ Some q → q < a.states) → IsPlaceOf a (arrival_of a.shape (step_from a o (word t)))
    go None h = tt
    go (Some q) h = in_arrived a (next a q (word t)) (inr (q, word t, h q refl, letters_in t, refl))

pub answer_in : (a : Automaton) (word : ℕ → ℕ) → IsAutomaton a → IsWord a word → (t : ℕ)
    → IsPlaceOf a (answer_after a word t)
answer_in a word is letters_in t = go (state_after a word t) (state_in a word is letters_in t)
  where
    go : (o : Option ℕ) → ((q : ℕ) → o ≡ Some q → q < a.states) → IsPlaceOf a (answer_at o (input_of a.controllable (word t)))
    go None h = tt
    go (Some q) h = (h q refl, input_in a.controllable (word t))

-- from an arrival to the answer
pub to_answer : (a : Automaton) (word : ℕ → ℕ) (t : ℕ)
    → Moves a (arrival_after a word t) (answer_after a word t)
to_answer a word zero = (input_of a.controllable (word 0), input_in a.controllable (word 0), refl)
to_answer a word (suc t) = go (step_at a word t)
  where
    go : (o : Option Step) → Moves a (arrival_of a.shape o) (answer_at (target_of o) (input_of a.controllable (word (suc t))))
    go None = refl
    go (Some step) = (input_of a.controllable (word (suc t)), input_in a.controllable (word (suc t)), refl)

-- from an answer to the next arrival
pub to_arrival : (a : Automaton) (word : ℕ → ℕ) → IsAutomaton a → IsWord a word → (t : ℕ)
    → Moves a (answer_after a word t) (arrival_after a word (suc t))
to_arrival a word is letters_in t = go (state_after a word t)
  where
    go : (o : Option ℕ) → Moves a (answer_at o (input_of a.controllable (word t))) (arrival_of a.shape (step_from a o (word t)))
    go None = refl
    go (Some q) = (
      output_of a.controllable (word t),
      output_in a.controllable (word t),
      ap (λ l. arrival_of a.shape (next a q l)) (sym (whole a.controllable (word t) (subst (λ k. word t < 2 ^ k) (sym is.marks) (letters_in t)))),
    )

-- the play

place_at : Automaton → (ℕ → ℕ) → ℕ → Place
place_at a word u =
    cond (eqb (u % 2) 0) (arrival_after a word (u / 2)) (answer_after a word (u / 2))

place_even : (a : Automaton) (word : ℕ → ℕ) (t : ℕ) → place_at a word (2 * t) ≡ arrival_after a word t
unfolding place_at
place_even a word t =
    let even : (2 * t) % 2 ≡ 0 = omega arith in
    let half : (2 * t) / 2 ≡ t = omega arith in rw (even, half) refl

place_odd : (a : Automaton) (word : ℕ → ℕ) (t : ℕ) → place_at a word (2 * t + 1) ≡ answer_after a word t
unfolding place_at
place_odd a word t =
    let odd : (2 * t + 1) % 2 ≡ 1 = omega arith in
    let half : (2 * t + 1) / 2 ≡ t = omega arith in rw (odd, half) refl

-- every step number is an even one or an odd one
pub halves : (u : ℕ) → ((t : ℕ) × (u ≡ 2 * t)) ⊎ ((t : ℕ) × (u ≡ 2 * t + 1))
halves u = elim (cases_eq (u % 2) 0) [ inl e ↦ inl (u / 2, omega arith) | inr e ↦ inr (u / 2, omega arith) ]

place_in : (a : Automaton) (word : ℕ → ℕ) → IsAutomaton a → IsWord a word → (u : ℕ)
    → IsPlaceOf a (place_at a word u)
place_in a word is letters_in u = elim (halves u) [
  | inl h ↦ subst (IsPlaceOf a) (sym (ap (place_at a word) h.1 ∙ place_even a word h.0))
      (arrival_in a word is letters_in h.0)
  | inr h ↦ subst (IsPlaceOf a) (sym (ap (place_at a word) h.1 ∙ place_odd a word h.0))
      (answer_in a word is letters_in h.0)
]

pub the_play : (a : Automaton) (game : List GameVertex) (word : ℕ → ℕ) → IsAutomaton a
    → IsGameOfAutomaton a game → IsWord a word → (play : ℕ → ℕ) × Traces a game word play
the_play a game word is g letters_in =
    (play, record { goes_on = goes_on; arrivals = arrivals; answers = answers })
  where
    found : (u : ℕ) → (v : ℕ) × StandsFor a game v (place_at a word u)
    found u = g.each_place (place_at a word u) (place_in a word is letters_in u)

    play : ℕ → ℕ
    play u = (found u).0

    arrivals : (t : ℕ) → StandsFor a game (play (2 * t)) (arrival_after a word t)
    arrivals t = subst (StandsFor a game (play (2 * t))) (place_even a word t) (found (2 * t)).1

    answers : (t : ℕ) → StandsFor a game (play (2 * t + 1)) (answer_after a word t)
    answers t = subst (StandsFor a game (play (2 * t + 1))) (place_odd a word t) (found (2 * t + 1)).1

    goes_on : (u : ℕ) → IsEdge game (play u) (play (u + 1))
    goes_on u = elim (halves u) [
      | inl h ↦ subst (λ x. IsEdge game (play x) (play (x + 1))) (sym h.1)
          ((g.edges (play (2 * h.0)) (play (2 * h.0 + 1)) (arrival_after a word h.0) (arrivals h.0)).1
          (answer_after a word h.0, to_answer a word h.0, answers h.0))
      | inr h ↦
          let following : 2 * suc h.0 ≡ (2 * h.0 + 1) + 1 = omega arith in
          subst (λ x. IsEdge game (play x) (play (x + 1))) (sym h.1)
          (subst (λ y. IsEdge game (play (2 * h.0 + 1)) (play y)) following
          ((g.edges (play (2 * h.0 + 1)) (play (2 * suc h.0)) (answer_after a word h.0) (answers h.0)).1
          (arrival_after a word (suc h.0), to_arrival a word is letters_in h.0, arrivals (suc h.0))))
    ]

pub one_play : (a : Automaton) (game : List GameVertex) (word : ℕ → ℕ) → IsGameOfAutomaton a game → (first second : ℕ → ℕ)
    → Traces a game word first → Traces a game word second → (u : ℕ) → first u ≡ second u
one_play a game word g first second tr other u = elim (halves u) [
  | inl h ↦ subst (λ x. first x ≡ second x) (sym h.1)
      (one_vertex a game g.is_game (first (2 * h.0)) (second (2 * h.0)) (arrival_after a word h.0) (tr.arrivals h.0) (other.arrivals h.0))
  | inr h ↦ subst (λ x. first x ≡ second x) (sym h.1)
      (one_vertex a game g.is_game (first (2 * h.0 + 1)) (second (2 * h.0 + 1)) (answer_after a word h.0) (tr.answers h.0) (other.answers h.0))
]

-- from the first missing step on all is dead
pub dead_on : (a : Automaton) (word : ℕ → ℕ) (t more : ℕ) → state_after a word t ≡ None
    → state_after a word (more + t) ≡ None
dead_on a word t zero e = let f : 0 + t ≡ t = omega arith in rw f e
dead_on a word t (suc more) e =
    let f : suc more + t ≡ suc (more + t) = omega arith in
    rw f (ap (λ o. target_of (step_from a o (word (more + t)))) (dead_on a word t more e))

arrival_dead : (a : Automaton) (word : ℕ → ℕ) (t : ℕ) → state_after a word t ≡ None → arrival_after a word t ≡ Dead
arrival_dead a word zero e = absurd (cc e)
arrival_dead a word (suc t) e = go (step_at a word t) e
  where
    go : (o : Option Step) → target_of o ≡ None → arrival_of a.shape o ≡ Dead
    go None f = refl
    go (Some step) f = absurd (cc f)

pub dead_after : (a : Automaton) (game : List GameVertex) (word play : ℕ → ℕ) → Traces a game word play
    → (t u : ℕ) → state_after a word t ≡ None → 2 * t ≤ u → StandsFor a game (play u) Dead
dead_after a game word play tr t u e le = elim (halves u) [
  | inl h ↦
      let d : u ≡ 2 * h.0 = h.1 in
      subst (λ x. StandsFor a game (play x) Dead) (sym h.1)
      (subst (StandsFor a game (play (2 * h.0))) (arrival_dead a word h.0 (none_at h.0 (omega arith))) (tr.arrivals h.0))
  | inr h ↦
      let d : u ≡ 2 * h.0 + 1 = h.1 in
      subst (λ x. StandsFor a game (play x) Dead) (sym h.1)
      (subst (StandsFor a game (play (2 * h.0 + 1)))
      (ap (λ o. answer_at o (input_of a.controllable (word h.0))) (none_at h.0 (omega arith))) (tr.answers h.0))
]
  where
    none_at : (x : ℕ) → t ≤ x → state_after a word x ≡ None
    none_at x l = let f : (x - t) + t ≡ x = omega arith in subst (λ y. state_after a word y ≡ None) f (dead_on a word t (x - t) e)
