-- Who wins the play that a word traces.
use Rattle.pg_synth.proofs.Common.{◌≡◌, ◌↔◌, ℕ, suc, ◌+◌, ◌*◌, ◌%◌, ◌<◌, ◌≤◌, ◌⊎◌, inl, inr, Bool, true, false, List, Option, Some, None}
use Rattle.pg_synth.proofs.Common.{arith, refl, sym, subst, ◌∙◌, Contains, All, IsStrictlyIncreasing, is_some, cases_Bool, All-contains}
use Rattle.pg_synth.proofs.Common.{Even, GameVertex, priority, IsGreatestRecurring, Loses, WinsPlay, priority_bound, one_loser, parity_of}
use Rattle.pg_synth.proofs.Common.{Shape, Step, Automaton, IsAutomaton, next, deciding, Formula, holds, input_of, IsWord, IsAccepted}
use Rattle.pg_synth.proofs.Common.{SetRecurs, HoldsRecurring, step_from, step_at, sets_of, target_of, state_after, set_priority}
use Rattle.pg_synth.proofs.Common.{none_priority, place_priority, arrival_of, IsGameOfAutomaton, answer_at, Traces, Arrival, TracesOnePlay}
use Rattle.pg_synth.proofs.Common.{not_not_collected}
use Rattle.std.specs.Option.{IsSome}
use Rattle.pg_synth.proofs.Ranks.{HasSets, IsMet, deciding_cases, rank_rises, none_lowest, rank_parity, none_parity, find_foremost}
use Rattle.pg_synth.proofs.Recurs.{Meets, ListRecurs, foremost_rank, empty_rank}
use Rattle.pg_synth.proofs.Accepting.{HasShape, shape_of_fits}
use Rattle.pg_synth.proofs.Trace.{state_in, dead_after, the_play, one_play}

-- what it meets

arrival_meets : (shape : Shape) (n q : ℕ) (xs : List ℕ) → IsStrictlyIncreasing xs → ((s : ℕ) → Contains xs s → s < n)
    → (none_priority shape n ≤ place_priority shape n (Arrival q (deciding shape xs)))
    × ((s : ℕ) → Contains xs s → set_priority shape n s ≤ place_priority shape n (Arrival q (deciding shape xs)))
    × ((place_priority shape n (Arrival q (deciding shape xs)) ≡ none_priority shape n)
    ⊎ ((s : ℕ) × Contains xs s × (place_priority shape n (Arrival q (deciding shape xs)) ≡ set_priority shape n s)))
arrival_meets shape n q xs inc below = elim (deciding_cases shape xs inc) [
  | inl (e, none) ↦ rw e (omega arith, (λ s h. absurd (none s h)), inl refl)
  | inr (s, e, f) ↦
      let low : none_priority shape n < set_priority shape n s = none_lowest shape n s (below s f.occurs) in
      rw e (
        omega arith,
        (λ r h. rank_rises shape n r s (below r h) (below s f.occurs) (f.first r h)),
        inr (s, f.occurs, refl),
      )
]

-- the sets of a step of the run
sets_good : (a : Automaton) (word : ℕ → ℕ) → IsAutomaton a → IsWord a word → (t : ℕ)
    → All (λ s. s < a.sets) (sets_of (step_at a word t)) × IsStrictlyIncreasing (sets_of (step_at a word t))
sets_good a word is letters_in t = go (state_after a word t) (state_in a word is letters_in t)
  where
    there : (q : ℕ) → q < a.states → (o : Option Step) → next a q (word t) ≡ o
        → All (λ s. s < a.sets) (sets_of o) × IsStrictlyIncreasing (sets_of o)
    there q below None e = ((λ k d l. absurd (omega arith)), λ k h. absurd (omega arith))
    there q below (Some step) e = let g = is.steps q (word t) step below (letters_in t) e in (g.sets_below, g.sets_rise)

    go : (o : Option ℕ) → ((q : ℕ) → o ≡ Some q → q < a.states)
        → All (λ s. s < a.sets) (sets_of (step_from a o (word t))) × IsStrictlyIncreasing (sets_of (step_from a o (word t)))
    go None h = ((λ k d l. absurd (omega arith)), λ k l. absurd (omega arith))
    go (Some q) h = there q (h q refl) (next a q (word t)) refl

Matters : Shape → ℕ → List ℕ → ℕ → Type 0
Matters shape n xs p =
    (none_priority shape n ≤ p) × ((s : ℕ) → Contains xs s → set_priority shape n s ≤ p)
    × ((p ≡ none_priority shape n) ⊎ ((s : ℕ) × Contains xs s × (p ≡ set_priority shape n s)))

arrival_matters : (shape : Shape) (n : ℕ) (o : Option Step) → is_some (target_of o) ≡ true
    → IsStrictlyIncreasing (sets_of o) → ((s : ℕ) → Contains (sets_of o) s → s < n) → Matters shape n (sets_of o) (place_priority shape n (arrival_of shape o))
unfolding Matters
arrival_matters shape n None some inc below = absurd (cc some)
arrival_matters shape n (Some step) some inc below = arrival_meets shape n step.target step.sets inc below

pub meets_by : (a : Automaton) (word met : ℕ → ℕ) → IsAutomaton a → IsWord a word → ((t : ℕ) → IsSome (state_after a word t))
    → ((t : ℕ) → met (2 * suc t) ≡ place_priority a.shape a.sets (arrival_of a.shape (step_at a word t))) → ((t : ℕ) → met (2 * t + 1) ≡ 0)
    → Meets a.shape a.sets (λ t. sets_of (step_at a word t)) met
unfolding Matters
meets_by a word met is letters_in endless arrivals answers = record {
  in_range = λ t s h. below t s h;
  over_none = λ t. (at t).0;
  over_each = λ t s h. (at t).1 s h;
  is_one = λ t. (at t).2;
  answers = answers;
}
  where
    below : (t s : ℕ) → Contains (sets_of (step_at a word t)) s → s < a.sets
    below t s h = All-contains (λ x. x < a.sets) (sets_of (step_at a word t)) s (sets_good a word is letters_in t).0 h

    at : (t : ℕ) → Matters a.shape a.sets (sets_of (step_at a word t)) (met (2 * suc t))
    at t = subst (Matters a.shape a.sets (sets_of (step_at a word t))) (sym (arrivals t))
        (arrival_matters a.shape a.sets (step_at a word t) (endless (suc t)) (sets_good a word is letters_in t).1 (below t))

answer_zero : (shape : Shape) (n : ℕ) (o : Option ℕ) (i : ℕ) → is_some o ≡ true → place_priority shape n (answer_at o i) ≡ 0
answer_zero shape n None i some = absurd (cc some)
answer_zero shape n (Some q) i some = refl

pub meets_of : (a : Automaton) (game : List GameVertex) (word play : ℕ → ℕ) → IsAutomaton a → IsWord a word
    → Traces a game word play → ((t : ℕ) → IsSome (state_after a word t))
    → Meets a.shape a.sets (λ t. sets_of (step_at a word t)) (λ u. priority game (play u))
meets_of a game word play is letters_in tr endless =
    meets_by a word (λ u. priority game (play u)) is letters_in endless (λ t. (tr.arrivals (suc t)).prioritised)
    (λ t. (tr.answers t).prioritised ∙ answer_zero a.shape a.sets (state_after a word t) (input_of a.controllable (word t)) (endless t))

-- who wins it

pub even_iff : (shape : Shape) (n : ℕ) (sets : ℕ → List ℕ) (met : ℕ → ℕ) (c : ℕ → Bool) (p : ℕ) → HasSets shape n
    → Meets shape n sets met → IsGreatestRecurring met p → ((r : ℕ) → r < n → (c r ≡ true) ↔ ListRecurs sets r)
    → (p % 2 ≡ 0) ↔ IsMet shape n c
even_iff shape n sets met c p has m g just = (to, from)
  where
    to : p % 2 ≡ 0 → IsMet shape n c
    to even = elim (find_foremost shape c n) [
      | inl none ↦ inr (
        none,
        (none_parity shape n has).0 (subst (λ x. x % 2 ≡ 0) (empty_rank shape n sets met c p m g just none) even),
      )
      | inr (s, f) ↦ inl (
        s,
        f,
        (rank_parity shape n s has f.below).0 (subst (λ x. x % 2 ≡ 0) (foremost_rank shape n sets met c p s m g just f) even),
      )
    ]

    from : IsMet shape n c → p % 2 ≡ 0
    from (inl (s, f, par)) =
        subst (λ x. x % 2 ≡ 0) (sym (foremost_rank shape n sets met c p s m g just f)) ((rank_parity shape n s has f.below).1 par)
    from (inr (none, acc)) =
        subst (λ x. x % 2 ≡ 0) (sym (empty_rank shape n sets met c p m g just none)) ((none_parity shape n has).1 acc)

dead_lost : (a : Automaton) (game : List GameVertex) (word play : ℕ → ℕ) (t : ℕ)
    → Traces a game word play → state_after a word t ≡ None → Loses Even (λ u. priority game (play u))
dead_lost a game word play t tr e = (
  1,
  record {
    recurs = λ (u, none). none (u + 2 * t) (omega arith) (one (u + 2 * t) (omega arith));
    bounds = (2 * t, λ u le. let o = one u le in omega (arith, o));
  },
  refl,
)
  where
    one : (u : ℕ) → 2 * t ≤ u → priority game (play u) ≡ 1
    one u le = (dead_after a game word play tr t u e le).prioritised

pub decides : (a : Automaton) (game : List GameVertex) (word play : ℕ → ℕ) → IsAutomaton a → IsWord a word
    → (condition : Formula) → HasShape condition a.sets a.shape → Traces a game word play
    → IsAccepted a condition word ↔ WinsPlay Even (λ u. priority game (play u))
decides a game word play is letters_in condition has tr = (to, from)
  where
    to : IsAccepted a condition word → WinsPlay Even (λ u. priority game (play u))
    to acc (p, g, odd) =
        not_not_collected (SetRecurs a word) a.sets (λ (c, just).
        let m = meets_of a game word play is letters_in tr acc.endless in
        let e : p % 2 ≡ 0 =
        (even_iff a.shape a.sets (λ t. sets_of (step_at a word t)) (λ u. priority game (play u)) c p has.has_sets m g just).1
        ((has.tells c).0 (acc.satisfied c just)) in
        let o : p % 2 ≡ 1 = odd in omega arith)

    from : WinsPlay Even (λ u. priority game (play u)) → IsAccepted a condition word
    from win = record { endless = endless; satisfied = satisfied }
      where
        endless : (t : ℕ) → IsSome (state_after a word t)
        endless t = go (state_after a word t) refl
          where
            go : (o : Option ℕ) → state_after a word t ≡ o → is_some o ≡ true
            go None e = absurd (win (dead_lost a game word play t tr e))
            go (Some q) e = refl

        satisfied : (c : ℕ → Bool) → HoldsRecurring a word c → holds condition c ≡ true
        satisfied c just = elim (cases_Bool (holds condition c)) [
          | inl t ↦ t
          | inr f ↦
              let b = priority_bound game in
              absurd ((one_loser (λ u. priority game (play u)) b.0 (λ s. b.1 (play s))).not_none (λ (p, g).
              elim (parity_of p) [
                | inl even ↦
                    let m = meets_of a game word play is letters_in tr endless in
                    let k : false ≡ true = sym f ∙ (has.tells c).1
                    ((even_iff a.shape a.sets (λ t. sets_of (step_at a word t)) (λ u. priority game (play u)) c p has.has_sets m g just).0 even) in
                    cc k
                | inr odd ↦ win (p, g, odd)
              ]))
        ]

pub traces_one : (a : Automaton) (game : List GameVertex) (word : ℕ → ℕ) → IsAutomaton a → IsGameOfAutomaton a game
    → IsWord a word → TracesOnePlay a game word
traces_one a game word is g letters_in = record {
  traced = the_play a game word is g letters_in;
  one = one_play a game word g;
  ends = λ play tr. dead_after a game word play tr;
  decides = λ condition fits play tr.
      decides a game word play is letters_in condition (shape_of_fits condition a.sets a.shape fits) tr;
}
