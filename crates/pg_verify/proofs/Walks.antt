-- The walk by Odd's choices refutes.
use Rattle.std.proofs.Common.{◌≡◌, ℕ, zero, suc, ◌+◌, ◌-◌, ◌*◌, ◌/◌, ◌%◌, ◌^◌, ◌<◌, ◌≤◌, ◌⊎◌, inl, inr, cond, ltb, List, []}
use Rattle.std.proofs.Common.{◌∷◌, ◌++◌, length, take, drop, Option, Some, None, arith, refl, sym, subst, ap, ◌∙◌, lt-ltb, le-ltb, length-append}
use Rattle.std.specs.Prelude.{All, eqb}
use Rattle.std.specs.List.{IsDistinct}
use Rattle.std.proofs.lemmas.Bool.{cases_lt}
use Rattle.std.proofs.lemmas.List.{get_or-take, get_or-drop, length-take-le, length-drop, get_or_append_left, get_or_push, get_or_default}
use Rattle.std.proofs.lemmas.Nat.{mod-mul-add, div-add-mod', shl_whole}
use Rattle.pg_arena.specs.declared.player.Player.TheVariants.{Odd}
use Rattle.pg_arena.specs.Games.{GameVertex, IsEdge, opponent, vertex_at, nowhere}
use Rattle.pg_check.specs.Soundness.{Counts, IsSound}
use Rattle.pg_check.proofs.Cycles.{safe_from_sound}
use Rattle.pg_text.specs.declared.answer.Answer as solutions
use Rattle.pg_text.specs.Solutions.{IsSolution, choice, winner}
use Rattle.pg_hoa_automaton.specs.Automata.{Step, Automaton, IsAutomaton, letters, next, deciding}
use Rattle.pg_hoa_automaton.specs.Formulas.{Formula}
use Rattle.pg_hoa_automaton.specs.Shapes.{FitsShape}
use Rattle.pg_hoa_automaton.specs.Words.{IsWord, IsAccepted, state_after, step_at, step_from, target_of}
use Rattle.pg_synth.specs.Answers.{IsSynthGame}
use Rattle.pg_synth.specs.AutomatonGames.{IsGameOfAutomaton, Moves, StandsFor, arrival_of, input_letters, place_identifier, width}
use Rattle.pg_synth.specs.Letters.{input_of}
use Rattle.pg_synth.specs.Laws.{TracesOnePlay}
use Rattle.pg_synth.specs.Machines.{HasChosenInputs}
use Rattle.pg_synth.specs.Mirrors.GameLines.{place_in}
use Rattle.pg_synth.specs.Mirrors.Drafts as drafts
use Rattle.pg_synth.specs.Tracing.{Traces}
use Rattle.pg_synth.specs.declared.place.Place.{Place}
use Rattle.pg_synth.specs.declared.place.Place.TheVariants.{Arrival, Answer}
use Rattle.pg_synth.proofs.Deciding.{traces_one}
use Rattle.pg_synth.proofs.Letters.{input_back}
use Rattle.pg_synth.proofs.Machines.{unrealizable}
use Rattle.pg_synth.proofs.Numbering.{few_numbers}
use Rattle.pg_synth.proofs.Places.{known, within_game}
use Rattle.pg_synth.proofs.Trace.{one_vertex}
use Rattle.pg_verify.specs.Verdicts.{lasso}
use Rattle.pg_verify.specs.Mirrors.Lassos.{after, IsDeadEnd, IsRefuted}
use Rattle.pg_verify.specs.Mirrors.Products.{HasWholeLetters}
use Rattle.pg_verify.specs.Mirrors.Walks.{IsChosen, Goes, IsLasso, IsWalk, Shows, nth}
use Rattle.pg_verify.specs.declared.verdict.CircuitVerdict.{CircuitVerdict}
use Rattle.pg_verify.specs.declared.verdict.CircuitVerdict.TheVariants.{Accepted, Rejected, Stuck}
use Rattle.pg_verify.proofs.Periodic.{after_more}

-- ---- places of a list that is gone through over and over from a place on

place : ℕ → ℕ → ℕ → ℕ
place n c t = cond (ltb t c) t (c + (t - c) % (n - c))

place_early : (n c t : ℕ) → t < c → place n c t ≡ t
unfolding place
place_early n c t lt = ap (λ b. cond b t (c + (t - c) % (n - c))) (lt-ltb t c lt)

place_late : (n c t : ℕ) → c ≤ t → place n c t ≡ c + (t - c) % (n - c)
unfolding place
place_late n c t le = ap (λ b. cond b t (c + (t - c) % (n - c))) (le-ltb t c le)

place_in_list : (n c t : ℕ) → c < n → place n c t < n
place_in_list n c t lt = elim (cases_lt t c) [
  | inl early ↦ (let e = place_early n c t early in omega (arith, e))
  | inr late ↦ (let e = place_late n c t late in let m : (t - c) % (n - c) < n - c = omega arith in omega (arith, e, m))
]

-- the remainder of the next number
next_mod : (x m : ℕ) → 0 < m → ((x % m + 1 < m) × (suc x % m ≡ x % m + 1)) ⊎ ((x % m + 1 ≡ m) × (suc x % m ≡ 0))
next_mod x m pos =
    let whole = div-add-mod' x m in
    let low : x % m < m = omega arith in
    elim (cases_lt (x % m + 1) m) [
      | inl lt ↦
          let e : suc x ≡ x / m * m + (x % m + 1) = omega (arith, whole) in
          inl (lt, ap (λ y. y % m) e ∙ mod-mul-add (x / m) m (x % m + 1) lt)
      | inr ge ↦
          let full : x % m + 1 ≡ m = omega arith in
          let apart : (x / m + 1) * m ≡ x / m * m + m = grind arith in
          let e : suc x ≡ (x / m + 1) * m + 0 = omega (arith, whole, full, apart) in
          inr (full, ap (λ y. y % m) e ∙ mod-mul-add (x / m + 1) m 0 pos)
    ]

place_next : (n c t : ℕ) → c < n → ((place n c t + 1 < n) × (place n c (suc t) ≡ place n c t + 1)) ⊎ ((place n c t + 1 ≡ n) × (place n c (suc t) ≡ c))
place_next n c t lt = elim (cases_lt t c) [
  | inl early ↦
      let e = place_early n c t early in
      elim (cases_lt (suc t) c) [
        | inl early' ↦ (let f = place_early n c (suc t) early' in inl (omega (arith, e), omega (arith, e, f)))
        | inr late' ↦
            let at : suc t - c ≡ 0 = omega arith in
            let z : (suc t - c) % (n - c) ≡ 0 = ap (λ x. x % (n - c)) at ∙ (omega arith) in
            let f = place_late n c (suc t) late' in
            inl (omega (arith, e), omega (arith, e, f, z))
      ]
  | inr late ↦
      let e = place_late n c t late in
      let f = place_late n c (suc t) (omega arith) in
      let at : suc t - c ≡ suc (t - c) = omega arith in
      let g : (suc t - c) % (n - c) ≡ suc (t - c) % (n - c) = ap (λ x. x % (n - c)) at in
      elim (next_mod (t - c) (n - c) (omega arith)) [
        | inl (less, is) ↦ inl (omega (arith, e, less), omega (arith, e, f, g, is))
        | inr (full, is) ↦ inr (omega (arith, e, full), omega (arith, e, f, g, is))
      ]
]

lasso_at : (xs : List ℕ) (c t : ℕ) → c < length xs → lasso (take c xs) (drop c xs) t ≡ nth xs (place (length xs) c t)
lasso_at xs c t lt = elim (cases_lt t c) [
  | inl early ↦
      let l : t < length (take c xs) = omega (arith, count) in
      ap (λ b. cond b (nth (take c xs) t) (nth (drop c xs) ((t - length (take c xs)) % length (drop c xs)))) (lt-ltb t (length (take c xs)) l)
      ∙ get_or-take c xs t 0 early ∙ ap (nth xs) (sym (place_early (length xs) c t early))
  | inr late ↦
      let l : length (take c xs) ≤ t = omega (arith, count) in
      ap (λ b. cond b (nth (take c xs) t) (nth (drop c xs) ((t - length (take c xs)) % length (drop c xs)))) (le-ltb t (length (take c xs)) l)
      ∙ ap (λ n. nth (drop c xs) ((t - n) % length (drop c xs))) count ∙ ap (λ m. nth (drop c xs) ((t - c) % m)) (length-drop c xs)
      ∙ get_or-drop c xs ((t - c) % (length xs - c)) 0 ∙ ap (nth xs) (sym (place_late (length xs) c t late))
]
  where
    count : length (take c xs) ≡ c
    count = length-take-le c xs (omega arith)

-- ---- a walk that comes back

same_place : (p : Automaton) (game : List GameVertex) (v : ℕ) (x y : Place) → IsAutomaton p → StandsFor p game v x → StandsFor p game v y → x ≡ y
same_place p game v x y is s t =
    sym (known p x (within_game p x is s.is_place)) ∙ ap (place_in p) (sym s.identified ∙ t.identified)
    ∙ known p y (within_game p y is t.is_place)

arrival_state : (q r : ℕ) (s t : Option ℕ) → Arrival q s ≡ Arrival r t → q ≡ r
arrival_state q r s t e = cc

answer_letter : (q r i j : ℕ) → Answer q i ≡ Answer r j → i ≡ j
answer_letter q r i j e = cc

pub some_same : (x y : ℕ) → Some x ≡ Some y → x ≡ y
some_same x y e = cc

-- each vertex leads to the next by its letter, and the last one to that at the place c
pub record IsRound (p : Automaton) (game : List GameVertex) (initial : ℕ) (solution : List solutions.Answer) (visited word : List ℕ) (c : ℕ) : Type 0
  where
    pub place_below : c < length word
    pub first : nth visited 0 ≡ initial
    pub goes : (j : ℕ) → j + 1 < length word → Goes p game solution (nth visited j) (nth word j) (nth visited (j + 1))
    pub back : (j : ℕ) → j + 1 ≡ length word → Goes p game solution (nth visited j) (nth word j) (nth visited c)

module _ (p : Automaton) (game : List GameVertex) (initial : ℕ) (solution : List solutions.Answer) (is : IsAutomaton p) (whole : HasWholeLetters p)
    (synth : IsSynthGame p game initial) (sol : IsSolution game solution) (sound : IsSound game solution) (won : winner solution initial ≡ Odd)
    (visited letters_of : List ℕ) (c : ℕ) (round : IsRound p game initial solution visited letters_of c) where
  abbrev word : ℕ → ℕ
  word = lasso (take c letters_of) (drop c letters_of)

  abbrev vertex : ℕ → ℕ
  vertex t = nth visited (place (length letters_of) c t)

  goes_at : (t : ℕ) → Goes p game solution (vertex t) (nth letters_of (place (length letters_of) c t)) (vertex (suc t))
  goes_at t = elim (place_next (length letters_of) c t round.place_below) [
    | inl (more, is) ↦
        subst (λ x. Goes p game solution (vertex t) (nth letters_of (place (length letters_of) c t)) (nth visited x)) (sym is)
        (round.goes (place (length letters_of) c t) more)
    | inr (last, is) ↦
        subst (λ x. Goes p game solution (vertex t) (nth letters_of (place (length letters_of) c t)) (nth visited x)) (sym is)
        (round.back (place (length letters_of) c t) last)
  ]

  goes : (t : ℕ) → Goes p game solution (vertex t) (word t) (vertex (suc t))
  goes t = subst (λ l. Goes p game solution (vertex t) l (vertex (suc t))) (sym (lasso_at letters_of c t round.place_below)) (goes_at t)

  letters_in : IsWord p word
  letters_in t = subst (λ n. word t < n) whole.as_many (goes t).answers.is_place.1

  abbrev traced : TracesOnePlay p game word
  traced = traces_one p game word is synth.is_game_of letters_in

  abbrev play : ℕ → ℕ
  play = traced.traced.0

  tr : Traces p game word play
  tr = traced.traced.1

  starts : StandsFor p game (vertex 0) (Arrival p.start None)
  starts = subst (λ v. StandsFor p game v (Arrival p.start None)) (sym (ap (nth visited) zero_place ∙ round.first)) synth.begins
    where
      zero_place : place (length letters_of) c 0 ≡ 0
      zero_place = elim (cases_lt 0 c) [
        | inl early ↦ place_early (length letters_of) c 0 early
        | inr late ↦
            let l = round.place_below in
            let z : (0 - c) % (length letters_of - c) ≡ 0 = (let at : 0 - c ≡ 0 = omega arith in ap (λ x. x % (length letters_of - c)) at ∙ (omega arith)) in
            let e = place_late (length letters_of) c 0 late in omega (arith, e, z)
      ]

  step_on : (t : ℕ) → state_after p word t ≡ Some (goes t).state → step_at p word t ≡ Some (goes t).step
  step_on t e = ap (λ o. step_from p o (word t)) e ∙ (goes t).steps

  states : (t : ℕ) → state_after p word t ≡ Some (goes t).state
  states zero = ap Some (arrival_state p.start (goes 0).state None (goes 0).set (same_place p game (vertex 0) _ _ is starts (goes 0).here))
  states (suc t) =
      ap target_of (step_on t (states t))
      ∙ ap Some (arrival_state (goes t).step.target (goes (suc t)).state _ (goes (suc t)).set
      (same_place p game (vertex (suc t)) _ _ is (goes t).there (goes (suc t)).here))

  steps : (t : ℕ) → step_at p word t ≡ Some (goes t).step
  steps t = step_on t (states t)

  plays : (t : ℕ) → play (2 * t) ≡ vertex t
  plays zero = one_vertex p game synth.is_game_of.is_game (play 0) (vertex 0) (Arrival p.start None) (tr.arrivals 0) starts
  plays (suc t) =
      one_vertex p game synth.is_game_of.is_game (play (2 * suc t)) (vertex (suc t)) (arrival_of p.shape (Some (goes t).step))
      (subst (λ o. StandsFor p game (play (2 * suc t)) (arrival_of p.shape o)) (steps t) (tr.arrivals (suc t))) (goes t).there

  own_input : (t : ℕ) → input_of p.controllable (word t) ≡ word t
  own_input t =
      ap (input_of p.controllable) (sym (whole.unjoined (word t) 0 (letters_in t)))
      ∙ input_back p.controllable (word t) 0 (goes t).answers.is_place.1

  chosen : HasChosenInputs p game solution word play
  chosen t w q i some choice_is stands =
      let same : w ≡ (goes t).answer = some_same w (goes t).answer (sym choice_is ∙ ap (choice solution) (plays t) ∙ (goes t).chosen) in
      own_input t
      ∙ answer_letter (goes t).state q (word t) i
      (same_place p game w _ _ is (subst (λ v. StandsFor p game v (Answer (goes t).state (word t))) (sym same) (goes t).answers) stands)

  pub not_accepted : (condition : Formula) → FitsShape condition p.sets p.shape → ¬ IsAccepted p condition word
  not_accepted condition fits =
      unrealizable p game initial solution condition word play is fits
      (record { game_of = synth.is_game_of; begins = synth.begins; solution_of = sol; sound = sound; wins = won }) letters_in tr chosen

  in_word : (j : ℕ) → j < length letters_of → nth letters_of j < letters p
  in_word j lt = subst (λ n. nth letters_of j < n) whole.as_many (elim (cases_lt (j + 1) (length letters_of)) [
    | inl more ↦ (round.goes j more).answers.is_place.1
    | inr last ↦ (round.back j (omega arith)).answers.is_place.1
  ])

  pub refuted : IsRefuted p (take c letters_of) (drop c letters_of)
  refuted = record {
    stem_in = λ k d lt.
        (let l = length-take-le c letters_of (let b = round.place_below in omega arith) in
        let k_in : k < c = omega (arith, l, lt) in
        let b = round.place_below in
        let h = in_word k (omega arith) in
        subst (λ x. x < letters p) (sym (get_or_default (take c letters_of) k d 0 lt ∙ get_or-take c letters_of k 0 k_in)) h);
    loop_in = λ k d lt.
        (let l = length-drop c letters_of in
        let h = in_word (c + k) (omega (arith, l, lt)) in
        subst (λ x. x < letters p) (sym (get_or_default (drop c letters_of) k d 0 lt ∙ get_or-drop c letters_of k 0)) h);
    repeats = λ e. (let l = length-drop c letters_of in let z = ap length e in let b = round.place_below in absurd (omega (arith, l, z)));
    rejects = not_accepted;
  }

-- ---- the walk itself

-- the answer that Odd chooses at an arrival that it wins
pub answer_of : (p : Automaton) (game : List GameVertex) (initial : ℕ) (solution : List solutions.Answer) (u state answer : ℕ) (set : Option ℕ)
    → IsSynthGame p game initial → IsSolution game solution → StandsFor p game u (Arrival state set) → winner solution u ≡ Odd
    → choice solution u ≡ Some answer → (i : ℕ) × (i < input_letters p) × StandsFor p game answer (Answer state i)
answer_of p game initial solution u state answer set synth sol here won chosen =
    let c = sol.chosen u here.in_game (here.owned ∙ sym won) in
    let edge : IsEdge game u answer = subst (IsEdge game u) (some_same c.0 answer (sym c.1 ∙ chosen)) c.2 in
    let led = (synth.is_game_of.edges u answer (Arrival state set) here).0 edge in
    let move : Moves p (Arrival state set) led.0 = led.1 in
    (move.0, move.1, subst (StandsFor p game answer) move.2 led.2)

-- the numbers of a state, as the code counts them
pub width_is : (p : Automaton) (n sets : ℕ) → IsAutomaton p → HasWholeLetters p → n ≡ length p.propositions → sets ≡ p.sets
    → sets + 1 + (1 * 2 ^ n) % 2 ^ 32 ≡ width p
width_is p n sets is whole e f =
    let s = shl_whole 1 1 n 32 (omega arith) (let few = is.few_propositions in omega (arith, few, e)) in
    let t : 2 ^ n ≡ input_letters p = ap (λ k. 2 ^ k) e ∙ sym whole.as_many in omega (arith, s, t, f)

pub answer_fits : (p : Automaton) (game : List GameVertex) (answer state i : ℕ) → All (λ (x : GameVertex). x.identifier < 2 ^ 32) game
    → StandsFor p game answer (Answer state i) → place_identifier p (Answer state 0) < 2 ^ 32
answer_fits p game answer state i all stands =
    let h : (vertex_at game answer).identifier < 2 ^ 32 = all answer nowhere stands.in_game in
    let e = stands.identified in omega (arith, h, e)

-- what Odd chooses at an arrival that it wins
pub chosen_at : (p : Automaton) (game : List GameVertex) (initial : ℕ) (solution : List solutions.Answer) (u state letter w answer : ℕ) (set : Option ℕ)
    → HasWholeLetters p → IsSynthGame p game initial → IsSolution game solution → IsSound game solution
    → StandsFor p game u (Arrival state set) → winner solution u ≡ Odd → choice solution u ≡ Some answer
    → (vertex_at game answer).identifier ≡ place_identifier p (Answer state letter) → IsEdge game answer w
    → IsChosen p game solution u state letter w
chosen_at p game initial solution u state letter w answer set whole synth sol sound here won chosen identified e = record {
  answer = answer;
  chosen = chosen;
  answers = answers;
  there = there;
  won = none_leaves answer w (e, inl (answers.owned ∙ sym (ap opponent answer_won))) ∙ answer_won;
}
  where
    g : IsGameOfAutomaton p game
    g = synth.is_game_of

    none_leaves : (v w : ℕ) → Counts game solution v w → winner solution w ≡ winner solution v
    none_leaves = (safe_from_sound game solution sound).none_leaves

    c : (x : ℕ) × (choice solution u ≡ Some x) × IsEdge game u x
    c = sol.chosen u here.in_game (here.owned ∙ sym won)

    edge : IsEdge game u answer
    edge = subst (IsEdge game u) (some_same c.0 answer (sym c.1 ∙ chosen)) c.2

    answer_won : winner solution answer ≡ Odd
    answer_won = none_leaves u answer (edge, inr chosen) ∙ won

    led : (y : Place) × Moves p (Arrival state set) y × StandsFor p game answer y
    led = (g.edges u answer (Arrival state set) here).0 edge

    answers : StandsFor p game answer (Answer state letter)
    answers =
        let move : Moves p (Arrival state set) led.0 = led.1 in
        let at : StandsFor p game answer (Answer state move.0) = subst (StandsFor p game answer) move.2 led.2 in
        let same : move.0 ≡ letter = (let h = at.identified in omega (arith, h, identified)) in
        subst (λ l. StandsFor p game answer (Answer state l)) same at

    there : StandsFor p game w (arrival_of p.shape (next p state letter))
    there =
        let on = (g.edges answer w (Answer state letter) answers).0 e in
        let move : Moves p (Answer state letter) on.0 = on.1 in
        let l_in : letter < letters p = subst (λ n. letter < n) whole.as_many answers.is_place.1 in
        subst (λ x. StandsFor p game w (arrival_of p.shape (next p state x))) (whole.unjoined letter move.0 l_in)
        (subst (StandsFor p game w) move.2 on.2)

-- the first vertex
pub first_walk : (p : Automaton) (game : List GameVertex) (initial : ℕ) (solution : List solutions.Answer) (visited word : List ℕ)
    → IsSynthGame p game initial → winner solution initial ≡ Odd → visited ≡ initial ∷ [] → word ≡ []
    → IsWalk p game initial solution visited word p.start initial
first_walk p game initial solution visited word synth won e f =
    subst (λ us. IsWalk p game initial solution us word p.start initial) (sym e)
    (subst (λ ls. IsWalk p game initial solution (initial ∷ []) ls p.start initial) (sym f) (record {
      long = omega arith;
      first = refl;
      last = refl;
      goes = λ j lt. absurd (omega arith);
      set = None;
      here = synth.begins;
      won = won;
      reached = refl;
    }))

-- at the last vertex of a walk the letter goes on to w
pub goes_on : (p : Automaton) (game : List GameVertex) (initial : ℕ) (solution : List solutions.Answer) (visited word : List ℕ)
    (state vertex letter w : ℕ) (step : Step) → IsWalk p game initial solution visited word state vertex
    → IsChosen p game solution vertex state letter w → next p state letter ≡ Some step → Goes p game solution vertex letter w
goes_on p game initial solution visited word state vertex letter w step walk chosen e = record {
  state = state;
  set = walk.set;
  here = walk.here;
  answer = chosen.answer;
  chosen = chosen.chosen;
  answers = chosen.answers;
  step = step;
  steps = e;
  there = subst (λ o. StandsFor p game w (arrival_of p.shape o)) e chosen.there;
}

-- one vertex and one letter more
pub longer_walk : (p : Automaton) (game : List GameVertex) (initial : ℕ) (solution : List solutions.Answer) (visited more_visited word more_word : List ℕ)
    (state vertex letter w : ℕ) (step : Step) → IsWalk p game initial solution visited word state vertex
    → IsChosen p game solution vertex state letter w → next p state letter ≡ Some step → more_word ≡ word ++ letter ∷ []
    → length more_visited ≡ suc (length visited) → ((k : ℕ) → k < length visited → nth more_visited k ≡ nth visited k)
    → nth more_visited (length visited) ≡ w → IsWalk p game initial solution more_visited more_word step.target w
longer_walk p game initial solution visited more_visited word more_word state vertex letter w step walk chosen e f count kept last = record {
  long = omega (arith, count, walk.long, long);
  first = kept 0 (let l = walk.long in omega arith) ∙ walk.first;
  last = ap (nth more_visited) (let l = walk.long in omega (arith, long)) ∙ last;
  goes = λ j lt. elim (cases_lt j (length word)) [
    | inl old ↦
        subst (λ x. Goes p game solution x (nth more_word j) (nth more_visited (j + 1))) (sym (kept j (let l = walk.long in omega arith)))
        (subst (λ x. Goes p game solution (nth visited j) x (nth more_visited (j + 1))) (sym (old_letter j old))
        (subst (Goes p game solution (nth visited j) (nth word j)) (sym (kept (j + 1) (let l = walk.long in omega arith))) (walk.goes j old)))
    | inr new ↦
        let at : j ≡ length word = omega (arith, long) in
        let here : nth more_visited j ≡ vertex = kept j (let l = walk.long in omega arith) ∙ ap (nth visited) at ∙ walk.last in
        let mine : nth more_word j ≡ letter = ap (λ ls. nth ls j) f ∙ get_or_push word letter 0 j (sym at) in
        let there : nth more_visited (j + 1) ≡ w = ap (nth more_visited) (let l = walk.long in omega arith) ∙ last in
        subst (λ x. Goes p game solution x (nth more_word j) (nth more_visited (j + 1))) (sym here)
        (subst (λ x. Goes p game solution vertex x (nth more_visited (j + 1))) (sym mine)
        (subst (Goes p game solution vertex letter) (sym there)
        (goes_on p game initial solution visited word state vertex letter w step walk chosen e)))
  ];
  set = deciding p.shape step.sets;
  here = subst (λ o. StandsFor p game w (arrival_of p.shape o)) e chosen.there;
  won = chosen.won;
  reached = ap (after p (Some p.start)) f ∙ after_more p (Some p.start) word letter
      ∙ ap (λ o. target_of (step_from p o letter)) walk.reached ∙ ap target_of e;
}
  where
    long : length more_word ≡ length word + 1
    long = ap length f ∙ length-append word (letter ∷ [])

    old_letter : (j : ℕ) → j < length word → nth more_word j ≡ nth word j
    old_letter j old = ap (λ ls. nth ls j) f ∙ get_or_append_left word (letter ∷ []) 0 j old

-- a walk that comes back to the vertex at the place c
pub rounded : (p : Automaton) (game : List GameVertex) (initial : ℕ) (solution : List solutions.Answer) (visited word more_word : List ℕ)
    (state vertex letter w c : ℕ) (step : Step) → IsWalk p game initial solution visited word state vertex
    → IsChosen p game solution vertex state letter w → next p state letter ≡ Some step → more_word ≡ word ++ letter ∷ []
    → c < length more_word → nth visited c ≡ w → IsRound p game initial solution visited more_word c
rounded p game initial solution visited word more_word state vertex letter w c step walk chosen e f below at_c = record {
  place_below = below;
  first = walk.first;
  goes = λ j more.
      let old : j < length word = omega (arith, long) in
      subst (λ x. Goes p game solution (nth visited j) x (nth visited (j + 1))) (sym (old_letter j old)) (walk.goes j old);
  back = λ j last.
      let at : j ≡ length word = omega (arith, long) in
      let here : nth visited j ≡ vertex = ap (nth visited) at ∙ walk.last in
      let mine : nth more_word j ≡ letter = ap (λ ls. nth ls j) f ∙ get_or_push word letter 0 j (sym at) in
      subst (λ x. Goes p game solution x (nth more_word j) (nth visited c)) (sym here)
      (subst (λ x. Goes p game solution vertex x (nth visited c)) (sym mine)
      (subst (Goes p game solution vertex letter) (sym at_c)
      (goes_on p game initial solution visited word state vertex letter w step walk chosen e)));
}
  where
    long : length more_word ≡ length word + 1
    long = ap length f ∙ length-append word (letter ∷ [])

    old_letter : (j : ℕ) → j < length word → nth more_word j ≡ nth word j
    old_letter j old = ap (λ ls. nth ls j) f ∙ get_or_append_left word (letter ∷ []) 0 j old

-- a walk that comes to a letter without a step
pub dead_end : (p : Automaton) (game : List GameVertex) (initial : ℕ) (solution : List solutions.Answer) (visited word more_word : List ℕ)
    (state vertex letter w : ℕ) → HasWholeLetters p → IsWalk p game initial solution visited word state vertex
    → IsChosen p game solution vertex state letter w → next p state letter ≡ None → more_word ≡ word ++ letter ∷ [] → IsDeadEnd p more_word
dead_end p game initial solution visited word more_word state vertex letter w whole walk chosen e f = record {
  letters_in = λ k d lt. elim (cases_lt k (length word)) [
    | inl old ↦
        subst (λ x. x < letters p) (sym (get_or_default more_word k d 0 lt ∙ ap (λ ls. nth ls k) f ∙ get_or_append_left word (letter ∷ []) 0 k old))
        (subst (λ n. nth word k < n) whole.as_many (walk.goes k old).answers.is_place.1)
    | inr new ↦
        let at : length word ≡ k = omega (arith, long) in
        subst (λ x. x < letters p) (sym (get_or_default more_word k d 0 lt ∙ ap (λ ls. nth ls k) f ∙ get_or_push word letter 0 k at))
        (subst (λ n. letter < n) whole.as_many chosen.answers.is_place.1)
  ];
  ends = ap (after p (Some p.start)) f ∙ after_more p (Some p.start) word letter
      ∙ ap (λ o. target_of (step_from p o letter)) walk.reached ∙ ap target_of e;
}
  where
    long : length more_word ≡ length word + 1
    long = ap length f ∙ length-append word (letter ∷ [])

-- ---- visited vertices

-- a vertex that wasn't visited is put behind the others
pub fresh : (visited after : List ℕ) (q number : ℕ) → drafts.IsNumbered visited q number after → length visited ≤ number
    → (length after ≡ suc (length visited)) × (nth after (length visited) ≡ q)
fresh visited after q number is late = elim is.grows [
  | inl same ↦ absurd (let n = is.number_in in omega arith)
  | inr more ↦ (more.0, ap (nth after) (sym more.1) ∙ is.there)
]

-- one that was has its place
pub again : (visited after : List ℕ) (q number : ℕ) → drafts.IsNumbered visited q number after → number < length visited → nth visited number ≡ q
again visited after q number is early = sym (is.kept number early) ∙ is.there

pub walk_below : (p : Automaton) (game : List GameVertex) (initial : ℕ) (solution : List solutions.Answer) (visited word : List ℕ) (state vertex : ℕ)
    → IsWalk p game initial solution visited word state vertex → (k : ℕ) → k < length visited → nth visited k < length game
walk_below p game initial solution visited word state vertex walk k lt = elim (cases_lt k (length word)) [
  | inl old ↦ (walk.goes k old).here.in_game
  | inr new ↦
      let l = walk.long in
      let at : k ≡ length word = omega arith in
      subst (λ x. x < length game) (sym (ap (nth visited) at ∙ walk.last)) walk.here.in_game
]

-- so a walk visits no more vertices than there are
pub few_visited : (p : Automaton) (game : List GameVertex) (initial : ℕ) (solution : List solutions.Answer) (visited word : List ℕ) (state vertex : ℕ)
    → IsWalk p game initial solution visited word state vertex → IsDistinct eqb visited → length word < length game
few_visited p game initial solution visited word state vertex walk distinct =
    let few = few_numbers visited (length game) distinct (walk_below p game initial solution visited word state vertex walk) in
    let l = walk.long in omega arith

pub lasso_shows : (p : Automaton) (word : List ℕ) (place : ℕ) (verdict : CircuitVerdict) → IsRefuted p (take place word) (drop place word)
    → IsLasso word place verdict → Shows p verdict
lasso_shows p word place Accepted h is = is
lasso_shows p word place (Stuck letters_of) h is = absurd is
lasso_shows p word place (Rejected stem loop) h (e, f) =
    subst (λ (xs : List ℕ). IsRefuted p xs loop.items) (sym e) (subst (λ (ys : List ℕ). IsRefuted p (take place word) ys) (sym f) h)
