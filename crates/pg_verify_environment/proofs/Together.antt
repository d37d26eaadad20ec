-- The runs of an automaton and of its counterpart go together, until the automaton's ends.
use Rattle.std.proofs.Common.{◌≡◌, ◌≢◌, ℕ, suc, zero, ◌+◌, ◌-◌, ◌%◌, ◌<◌, ◌≤◌, inl, inr, Bool, true, false, cond, ltb, eqb, List, [], ◌∷◌, length, Option, Some, None, arith, refl, sym, subst, ap, ◌∙◌}
use Rattle.std.proofs.Common.{lt-ltb, le-ltb}
use Rattle.std.specs.Prelude.{not, IsTrue, IsSome, is_some, ◌⊎◌, ◌↔◌, Contains}
use Rattle.std.proofs.lemmas.Bool.{cases_Bool, eqb-true, eqb-false}
use Rattle.pg_hoa_automaton.specs.declared.shape.Shape.{Shape}
use Rattle.pg_hoa_automaton.specs.declared.shape.Shape.TheVariants.{MaxEven, MaxOdd, MinEven, MinOdd, Always, Never}
use Rattle.pg_hoa_automaton.specs.Automata.{Step, Automaton, IsAutomaton, letters, step, next}
use Rattle.pg_hoa_automaton.specs.Formulas.{Formula, holds}
use Rattle.pg_hoa_automaton.specs.Shapes.{FitsShape, Accepts, NoneRecurs, IsGreatest, IsLeast}
use Rattle.pg_hoa_automaton.specs.Words.{IsWord, step_from, target_of, sets_of, state_after, step_at, SetRecurs, HoldsRecurring, IsAccepted}
use Rattle.pg_hoa_automaton.proofs.Collections.{not_not_collected}
use Rattle.pg_hoa_automaton.proofs.ShapeLaws.{shape_says}
use Rattle.pg_synth.proofs.Trace.{state_in}
use Rattle.pg_verify_environment.specs.Counterparts.{opposite, opposite_sets, end_sets, end_step, or_end, step_on, IsCounterpart}
use Rattle.pg_verify_environment.specs.Laws.{CounterpartDecides}
use Rattle.pg_verify_environment.proofs.Opposite.{AgreeBelow, conditions_opposite, condition_same}

-- both are at a state, or the one has ended and the other is at its last state
abbrev AreTogether : Automaton → Automaton → (ℕ → ℕ) → ℕ → Type 0
AreTogether a c word t =
    ((q : ℕ) × (state_after a word t ≡ Some q) × (state_after c word t ≡ Some q))
    ⊎ ((state_after a word t ≡ None) × (state_after c word t ≡ Some a.states))

module _ (a c : Automaton) (word : ℕ → ℕ) (is : IsAutomaton a) (twin : IsCounterpart a c) (letters_in : IsWord a word) where
  on_state : (q t : ℕ) → q < a.states → next c q (word t) ≡ Some (or_end a (next a q (word t)))
  on_state q t l =
      twin.steps q (word t) (omega arith) (letters_in t)
      ∙ ap (λ (b : Bool). Some (cond b (or_end a (next a q (word t))) (end_step a))) (lt-ltb q a.states l)

  at_end : (t : ℕ) → next c a.states (word t) ≡ Some (end_step a)
  at_end t =
      twin.steps a.states (word t) (omega arith) (letters_in t)
      ∙ ap (λ (b : Bool). Some (cond b (or_end a (next a a.states (word t))) (end_step a))) (le-ltb a.states a.states (omega arith))

  together : (t : ℕ) → AreTogether a c word t
  together zero = inl (a.start, refl, ap Some twin.start)
  together (suc t) = elim (together t) [
    | inl h ↦ from_state h.0 h.1 h.2 (next a h.0 (word t)) refl
    | inr h ↦ inr (
      ap (λ o. target_of (step_from a o (word t))) h.0,
      ap (λ o. target_of (step_from c o (word t))) h.1 ∙ ap target_of (at_end t),
    )
  ]
    where
      from_state : (q : ℕ) → state_after a word t ≡ Some q → state_after c word t ≡ Some q → (o : Option Step) → next a q (word t) ≡ o
          → AreTogether a c word (suc t)
      from_state q e f None h = inr (
        ap (λ o. target_of (step_from a o (word t))) e ∙ ap target_of h,
        ap (λ o. target_of (step_from c o (word t))) f
            ∙ ap target_of (on_state q t (state_in a word is letters_in t q e) ∙ ap (λ (o : Option Step). Some (or_end a o)) h),
      )
      from_state q e f (Some s) h = inl (
        s.target,
        ap (λ o. target_of (step_from a o (word t))) e ∙ ap target_of h,
        ap (λ o. target_of (step_from c o (word t))) f
            ∙ ap target_of (on_state q t (state_in a word is letters_in t q e) ∙ ap (λ (o : Option Step). Some (or_end a o)) h),
      )

  pub twin_endless : (t : ℕ) → IsSome (state_after c word t)
  twin_endless t = elim (together t) [
    | inl h ↦ ap is_some h.2
    | inr h ↦ ap is_some h.1
  ]

  -- ---- where the automaton's run never ends, both take the same steps

  same_step : ((t : ℕ) → IsSome (state_after a word t)) → (t : ℕ) → step_at a word t ≡ step_at c word t
  same_step endless t = elim (together t) [
    | inl h ↦ go h.0 h.1 h.2 (next a h.0 (word t)) refl
    | inr h ↦ absurd (let e : false ≡ true = ap is_some (sym h.0) ∙ endless t in cc e)
  ]
    where
      go : (q : ℕ) → state_after a word t ≡ Some q → state_after c word t ≡ Some q → (o : Option Step) → next a q (word t) ≡ o
          → step_at a word t ≡ step_at c word t
      go q e f None h =
          let none : state_after a word (suc t) ≡ None = ap (λ o. target_of (step_from a o (word t))) e ∙ ap target_of h in
          absurd (let e : false ≡ true = ap is_some (sym none) ∙ endless (suc t) in cc e)
      go q e f (Some s) h =
          ap (λ o. step_from a o (word t)) e ∙ h
          ∙ sym (ap (λ o. step_from c o (word t)) f ∙ on_state q t (state_in a word is letters_in t q e) ∙ ap (λ (o : Option Step). Some (or_end a o)) h)

  recurs_same : ((t : ℕ) → IsSome (state_after a word t)) → (s : ℕ) → SetRecurs a word s ↔ SetRecurs c word s
  recurs_same endless s = (
    (λ rec (t, absent). rec (t, λ u le has. absent u le (subst (λ o. Contains (sets_of o) s) (same_step endless u) has))),
    (λ rec (t, absent). rec (t, λ u le has. absent u le (subst (λ o. Contains (sets_of o) s) (sym (same_step endless u)) has))),
  )

  few : a.sets ≤ c.sets
  few = subst (λ n. a.sets ≤ n) (sym twin.sets) (go a.shape a.sets is.condition is.shape)
    where
      go : (shape : Shape) (sets : ℕ) (f : Formula) → FitsShape f sets shape → sets ≤ opposite_sets shape sets
      go MaxEven sets f fits = omega arith
      go MaxOdd sets f fits = omega arith
      go MinEven sets f fits = omega arith
      go MinOdd sets f fits = omega arith
      go Always zero f fits = omega arith
      go Always (suc k) f fits = absurd (let h = fits.1 in cc h)
      go Never sets f fits = omega arith

  -- what holds just the sets that recur on the counterpart's run does so on the automaton's
  held : ((t : ℕ) → IsSome (state_after a word t)) → (on : ℕ → Bool) → HoldsRecurring c word on → HoldsRecurring a word on
  held endless on just s l =
      let h = just s (let f = few in omega (arith, l, f)) in
      let r = recurs_same endless s in ((λ on_it. r.1 (h.0 on_it)), (λ rec. h.1 (r.0 rec)))

  -- nothing is met where all words with an endless run are accepted
  unmet : ((t : ℕ) → IsSome (state_after a word t)) → (on : ℕ → Bool) → HoldsRecurring c word on → a.shape ≡ Always → on 0 ≡ false
  unmet endless on just e = elim (cases_Bool (on 0)) [
    | inl on_it ↦ absurd ((recurs_same endless 0).1 ((just 0 below).0 on_it) (0, λ u le has. absent u has))
    | inr off_it ↦ off_it
  ]
    where
      below : 0 < c.sets
      below = let f : c.sets ≡ 1 = twin.sets ∙ ap (λ (x : Shape). opposite_sets x a.sets) e in omega (arith, f)

      no_sets : a.sets ≡ 0
      no_sets = go a.sets (subst (λ (x : Shape). FitsShape is.condition a.sets x) e is.shape)
        where
          go : (n : ℕ) → FitsShape is.condition n Always → n ≡ 0
          go zero fits = refl
          go (suc n) fits = absurd (let h = fits.1 in cc h)

      absent : (u : ℕ) → Contains (sets_of (step_at a word u)) 0 → ⊥
      absent u has = go (state_after a word u) refl
        where
          of_step : (q : ℕ) → state_after a word u ≡ Some q → (o : Option Step) → next a q (word u) ≡ o → ⊥
          of_step q f None h =
              let none : step_at a word u ≡ None = ap (λ o. step_from a o (word u)) f ∙ h in
              let k = subst (λ o. Contains (sets_of o) 0) none has in let l = k.1 in omega (arith, l)
          of_step q f (Some s) h =
              let some : step_at a word u ≡ Some s = ap (λ o. step_from a o (word u)) f ∙ h in
              let k = subst (λ o. Contains (sets_of o) 0) some has in
              let good = (is.steps q (word u) s (state_in a word is letters_in u q f) (letters_in u) h).sets_below k.0 0 k.1 in
              let same = k.2 in let z = no_sets in omega (arith, good, z)

          go : (o : Option ℕ) → state_after a word u ≡ o → ⊥
          go None f =
              let none : step_at a word u ≡ None = ap (λ o. step_from a o (word u)) f in
              let k = subst (λ o. Contains (sets_of o) 0) none has in let l = k.1 in omega (arith, l)
          go (Some q) f = of_step q f (next a q (word u)) refl

  opposed : (condition other : Formula) → FitsShape condition a.sets a.shape → FitsShape other c.sets c.shape → (on : ℕ → Bool)
      → (a.shape ≡ Always → on 0 ≡ false) → holds other on ≡ not (holds condition on)
  opposed condition other fits fits' on z =
      conditions_opposite a.shape a.sets condition other on fits
      (subst (λ (n : ℕ). FitsShape other n (opposite a.shape)) twin.sets (subst (λ (s : Shape). FitsShape other c.sets s) twin.shape fits')) z

  not_both : (condition other : Formula) → FitsShape condition a.sets a.shape → FitsShape other c.sets c.shape → IsAccepted c other word
      → IsAccepted a condition word → ⊥
  not_both condition other fits fits' by_twin by_a =
      not_not_collected (SetRecurs c word) c.sets (λ found.
      let holds_a = by_a.satisfied found.0 (held by_a.endless found.0 found.1) in
      let other_yes = by_twin.satisfied found.0 found.1 in
      let flipped = opposed condition other fits fits' found.0 (unmet by_a.endless found.0 found.1) in
      let e : true ≡ false = sym other_yes ∙ flipped ∙ ap not holds_a in cc e)

  -- ---- where the automaton's run ends, the counterpart accepts

  module _ (end : ℕ) (ended : state_after a word end ≡ None) where
    stays : (more : ℕ) → (state_after a word (end + more) ≡ None) × (state_after c word (end + more) ≡ Some a.states)
    stays zero = let z : end ≡ end + 0 = omega arith in
        (subst (λ t. state_after a word t ≡ None) z ended, subst (λ t. state_after c word t ≡ Some a.states) z twin_ended)
      where
        twin_ended : state_after c word end ≡ Some a.states
        twin_ended = elim (together end) [
          | inl h ↦ absurd (let e : Some h.0 ≡ None = sym h.1 ∙ ended in cc e)
          | inr h ↦ h.1
        ]
    stays (suc more) =
        let z : suc (end + more) ≡ end + suc more = omega arith in
        let h = stays more in (
          subst (λ t. state_after a word t ≡ None) z (ap (λ o. target_of (step_from a o (word (end + more)))) h.0),
          subst (λ t. state_after c word t ≡ Some a.states) z
              (ap (λ o. target_of (step_from c o (word (end + more)))) h.1 ∙ ap target_of (at_end (end + more))),
        )

    from_end : (u : ℕ) → end ≤ u → sets_of (step_at c word u) ≡ end_sets a.shape a.sets
    from_end u le =
        let z : end + (u - end) ≡ u = omega arith in
        let at : state_after c word u ≡ Some a.states = subst (λ t. state_after c word t ≡ Some a.states) z (stays (u - end)).1 in
        ap sets_of (ap (λ o. step_from c o (word u)) at ∙ at_end u)

    recurs_if : (s : ℕ) → Contains (end_sets a.shape a.sets) s → SetRecurs c word s
    recurs_if s has (t, absent) =
        absent (t + end) (omega arith) (subst (λ xs. Contains xs s) (sym (from_end (t + end) (omega arith))) has)

    recurs_only : (s : ℕ) → (Contains (end_sets a.shape a.sets) s → ⊥) → ¬ SetRecurs c word s
    recurs_only s not_in rec = rec (end, λ u le has. not_in (subst (λ xs. Contains xs s) (from_end u le) has))

    end_accepted : (other : Formula) → FitsShape other c.sets c.shape → IsAccepted c other word
    end_accepted other fits = record {
      endless = twin_endless;
      satisfied = λ on just.
          (shape_says other c.sets c.shape on fits).1
          (subst (λ (n : ℕ). Accepts c.shape n on) (sym twin.sets)
          (subst (λ (s : Shape). Accepts s (opposite_sets a.shape a.sets) on) (sym twin.shape)
          (accepts a.shape a.sets is.condition is.shape on
          (λ s l has. (just s (subst (λ (n : ℕ). s < n) (sym twin.sets) l)).1 (recurs_if s has))
          (λ s l not_in. off (on s) (λ on_it. recurs_only s not_in ((just s (subst (λ (n : ℕ). s < n) (sym twin.sets) l)).0 on_it))))));
    }
      where
        off : (b : Bool) → (b ≡ true → ⊥) → b ≡ false
        off true never = absurd (never refl)
        off false never = refl

        empty : (s : ℕ) → Contains [] s → ⊥
        empty s k = let l = k.1 in omega (arith, l)

        one : (x s : ℕ) → Contains (x ∷ []) s → x ≡ s
        one x s (zero, l, e) = e
        one x s (suc k, l, e) = absurd (omega (arith, l))

        first : (x : ℕ) → Contains (x ∷ []) x
        first x = (0, omega arith, refl)

        accepts : (shape : Shape) (sets : ℕ) (f : Formula) → FitsShape f sets shape → (on : ℕ → Bool)
            → ((s : ℕ) → s < opposite_sets shape sets → Contains (end_sets shape sets) s → on s ≡ true)
            → ((s : ℕ) → s < opposite_sets shape sets → (Contains (end_sets shape sets) s → ⊥) → on s ≡ false)
            → Accepts (opposite shape) (opposite_sets shape sets) on
        accepts MaxEven sets f fits on met not_met = inr (λ k l. not_met k l (empty k))
        accepts MaxOdd zero f fits on met not_met = absurd (let h = fits.1 in cc h)
        accepts MaxOdd (suc n) f fits on met not_met = (
          0,
          record {
            below = omega arith;
            recurs = met 0 (omega arith) (first 0);
            last = λ j more l. not_met j l (λ has. let e = one 0 j has in omega (arith, e, more));
          },
          refl,
        )
        accepts MinEven zero f fits on met not_met = absurd (let h = fits.1 in cc h)
        accepts MinEven (suc n) f fits on met not_met = odd_or (eqb (suc n % 2) 1) refl
          where
            odd_or : (b : Bool) → eqb (suc n % 2) 1 ≡ b → Accepts MinOdd (suc n) on
            odd_or true e = inr (
              (λ k l. not_met k l (λ has. empty k (subst (λ b. Contains {X = ℕ} (cond b [] (1 ∷ [])) k) e has))),
              (let h = eqb-true (suc n % 2) 1 e in h),
            )
            odd_or false e =
                let ne = eqb-false (suc n % 2) 1 e in
                let two : 1 < suc n = small n ne in
                inl (
                  1,
                  record {
                    below = two;
                    recurs = met 1 two (subst (λ b. Contains {X = ℕ} (cond b [] (1 ∷ [])) 1) (sym e) (first 1));
                    first = λ j less. not_met j (omega arith)
                        (λ has. let same = one 1 j (subst (λ b. Contains {X = ℕ} (cond b [] (1 ∷ [])) j) e has) in omega (arith, same, less));
                  },
                  refl,
                )
              where
                small : (n : ℕ) → (suc n % 2 ≢ 1) → 1 < suc n
                small zero ne = absurd (ne refl)
                small (suc n) ne = omega arith
        accepts MinOdd zero f fits on met not_met = absurd (let h = fits.1 in cc h)
        accepts MinOdd (suc n) f fits on met not_met = inl (
          0,
          record {
            below = omega arith;
            recurs = met 0 (omega arith) (first 0);
            first = λ j less. absurd (omega (arith, less));
          },
          refl,
        )
        accepts Always sets f fits on met not_met = (
          0,
          record {
            below = omega arith;
            recurs = met 0 (omega arith) (first 0);
            last = λ j more l. absurd (omega (arith, more, l));
          },
          refl,
        )
        accepts Never sets f fits on met not_met = tt

  -- ---- each word is accepted by one of them

  one_accepts : (condition other : Formula) → FitsShape condition a.sets a.shape → FitsShape other c.sets c.shape
      → ¬ IsAccepted c other word → IsAccepted a condition word
  one_accepts condition other fits fits' refused = record {
    endless = endless;
    satisfied = λ on just. yes_or on just (holds condition on) refl;
  }
    where
      endless : (t : ℕ) → IsSome (state_after a word t)
      endless t = elim (together t) [
        | inl h ↦ ap is_some h.1
        | inr h ↦ absurd (refused (end_accepted t h.0 other fits'))
      ]

      agree : (on or : ℕ → Bool) → HoldsRecurring a word on → HoldsRecurring a word or → AgreeBelow a.sets on or
      agree on or just just' s l = same (on s) (or s) (λ on_it. (just' s l).1 ((just s l).0 on_it)) (λ on_it. (just s l).1 ((just' s l).0 on_it))
        where
          same : (x y : Bool) → (x ≡ true → y ≡ true) → (y ≡ true → x ≡ true) → x ≡ y
          same true y f g = sym (f refl)
          same false true f g = g refl
          same false false f g = refl

      yes_or : (on : ℕ → Bool) → HoldsRecurring a word on → (b : Bool) → holds condition on ≡ b → holds condition on ≡ true
      yes_or on just true e = e
      yes_or on just false e = absurd (refused (record {
        endless = twin_endless;
        satisfied = λ or just'.
            opposed condition other fits fits' or (unmet endless or just')
            ∙ ap not (condition_same a.shape a.sets condition or on fits (agree or on (held endless or just') just) ∙ e);
      }))

pub decides : CounterpartDecides
decides a c condition other word is twin fits fits' letters_in = (
  (λ by_twin by_a. not_both a c word is twin letters_in condition other fits fits' by_twin by_a),
  (λ refused. one_accepts a c word is twin letters_in condition other fits fits' refused),
)
