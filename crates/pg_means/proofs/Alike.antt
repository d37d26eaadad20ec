-- The completed automaton accepts the same words.
use Rattle.pg_means.proofs.Common.{◌≡◌, ◌↔◌, ℕ, zero, suc, ◌+◌, ◌*◌, ◌-◌, ◌/◌, ◌%◌, ◌<◌, ◌≤◌, inl, inr, Bool, true, false, cond, eqb}
use Rattle.pg_means.proofs.Common.{Option, Some, None, IsSome, is_some, arith, refl, sym, ap, subst, ◌∙◌, cases_Bool}
use Rattle.pg_means.proofs.Common.{Step, Automaton, IsAutomaton, next, letters, Formula, holds, IsWord, IsAccepted}
use Rattle.pg_means.proofs.Common.{FitsShape, SetRecurs, HoldsRecurring, step_from, step_at, sets_of, target_of, state_after}
use Rattle.pg_means.proofs.Common.{not_not_collected, parity_of}
use Rattle.pg_means.proofs.Common.{Meets, HasShape, shape_of_fits, state_in}
use Rattle.pg_means.proofs.Common.{dead_on, halves, mod_below, pow_pos, length}
use Rattle.pg_synth.proofs.Deciding.{even_iff, meets_by}
use Rattle.pg_check.specs.Plays as plays
use Rattle.pg_means_look.specs.Automata as complete
use Rattle.pg_means_look.proofs.Ranking.{not_without}
use Rattle.pg_means.specs.Priorities.{state_code, target_code, step_priority, IsCompleted}
use Rattle.pg_means.specs.Verdicts.{IsWordOver, own_word}

-- ---- what is met

-- what a play meets that is at an answer between any two arrivals
between : (ℕ → ℕ) → ℕ → ℕ
between met u = cond (eqb (u % 2) 0) (met (u / 2 - 1)) 0

between_even : (met : ℕ → ℕ) (t : ℕ) → between met (2 * suc t) ≡ met t
unfolding between
between_even met t =
    let even : (2 * suc t) % 2 ≡ 0 = omega arith in
    let half : (2 * suc t) / 2 - 1 ≡ t = omega arith in rw (even, half) refl

between_odd : (met : ℕ → ℕ) (t : ℕ) → between met (2 * t + 1) ≡ 0
unfolding between
between_odd met t = let odd : (2 * t + 1) % 2 ≡ 1 = omega arith in rw odd refl

-- what recurs as the greatest also does between answers
between_greatest : (met : ℕ → ℕ) (p : ℕ) → complete.IsGreatestRecurring met p → plays.IsGreatestRecurring (between met) p
between_greatest met p g = record {
  recurs = λ (t, absent). g.recurs (t, λ s le e. absent (2 * suc s) (omega arith) (between_even met s ∙ e));
  bounds = (
    2 * suc g.bounds.0,
    λ u le. elim (halves u) [
      | inl h ↦
          let at : u ≡ 2 * suc (h.0 - 1) = let is : u ≡ 2 * h.0 = h.1 in omega arith in
          let low : met (h.0 - 1) ≤ p = g.bounds.1 (h.0 - 1) (let is : u ≡ 2 * h.0 = h.1 in omega arith) in
          let same : between met u ≡ met (h.0 - 1) = ap (between met) at ∙ between_even met (h.0 - 1) in omega arith
      | inr h ↦ let none : between met u ≡ 0 = ap (between met) h.1 ∙ between_odd met h.0 in omega arith
    ],
  );
}

meets_between : (a : Automaton) (word : ℕ → ℕ) (met : ℕ → ℕ) → IsAutomaton a → IsWord a word
    → ((t : ℕ) → met t ≡ step_priority a (step_at a word t)) → ((t : ℕ) → IsSome (state_after a word t))
    → Meets a.shape a.sets (λ t. sets_of (step_at a word t)) (between met)
meets_between a word met is letters_in is_met endless =
    meets_by a word (between met) is letters_in endless (λ t. between_even met t ∙ is_met t) (between_odd met)

-- ---- the two runs

module _ (a : Automaton) (propositions : ℕ) (b : complete.Automaton) (wide : ℕ → ℕ) (is : IsAutomaton a) (completed : IsCompleted a propositions b)
    (wide_in : IsWordOver propositions wide) where
  abbrev word : ℕ → ℕ
  word = own_word a wide

  letters_in : IsWord a word
  letters_in t = mod_below (wide t) (letters a) (pow_pos (length a.propositions))

  from_state : (o : Option ℕ) → ((q : ℕ) → o ≡ Some q → q < a.states) → (l : ℕ) → l < b.letters
      → (b.target (state_code a o) l ≡ state_code a (target_of (step_from a o (l % letters a))))
      × (b.priority (state_code a o) l ≡ step_priority a (step_from a o (l % letters a)))
  from_state None h l lt = (completed.end_target l lt, completed.end_priority l lt)
  from_state (Some q) h l lt = (completed.target q l (h q refl) lt ∙ code (next a q (l % letters a)), completed.priority q l (h q refl) lt)
    where
      code : (o : Option Step) → target_code a o ≡ state_code a (target_of o)
      code None = refl
      code (Some step) = refl

  below : (t : ℕ) → wide t < b.letters
  below t = subst (λ n. wide t < n) (sym completed.as_many) (wide_in t)

  same_state : (t : ℕ) → complete.state_at b wide t ≡ state_code a (state_after a word t)
  same_state zero = completed.start
  same_state (suc t) =
      ap (λ q. b.target q (wide t)) (same_state t)
      ∙ (from_state (state_after a word t) (state_in a word is letters_in t) (wide t) (below t)).0

  same_met : (t : ℕ) → complete.met b wide t ≡ step_priority a (step_at a word t)
  same_met t =
      ap (λ q. b.priority q (wide t)) (same_state t)
      ∙ (from_state (state_after a word t) (state_in a word is letters_in t) (wide t) (below t)).1

  -- a run that ends meets 1 from there on
  ended : (t : ℕ) → state_after a word t ≡ None → ¬ complete.IsAccepted b wide
  ended t e accepted = accepted (
    1,
    record {
      recurs = λ (u, absent). absent (u + t) (omega arith) (one (u + t) (omega arith));
      bounds = (t, λ s le. let o = one s le in omega (arith, o));
    },
    refl,
  )
    where
      none_at : (s : ℕ) → t ≤ s → state_after a word s ≡ None
      none_at s le = let f : (s - t) + t ≡ s = omega arith in subst (λ x. state_after a word x ≡ None) f (dead_on a word t (s - t) e)

      one : (s : ℕ) → t ≤ s → complete.met b wide s ≡ 1
      one s le = same_met s ∙ ap (λ o. step_priority a (step_from a o (word s))) (none_at s le)

  module _ (condition : Formula) (has : HasShape condition a.sets a.shape) where
    to : IsAccepted a condition word → complete.IsAccepted b wide
    to acc (p, g, odd) =
        not_not_collected (SetRecurs a word) a.sets (λ (c, just).
        let m = meets_between a word (complete.met b wide) is letters_in same_met acc.endless in
        let e : p % 2 ≡ 0 =
        (even_iff a.shape a.sets (λ t. sets_of (step_at a word t)) (between (complete.met b wide)) c p has.has_sets m
        (between_greatest (complete.met b wide) p g) just).1 ((has.tells c).0 (acc.satisfied c just)) in
        let o : p % 2 ≡ 1 = odd in omega arith)

    from : complete.IsAccepted b wide → IsAccepted a condition word
    from accepted = record { endless = endless; satisfied = satisfied }
      where
        endless : (t : ℕ) → IsSome (state_after a word t)
        endless t = go (state_after a word t) refl
          where
            go : (o : Option ℕ) → state_after a word t ≡ o → is_some o ≡ true
            go None e = absurd (ended t e accepted)
            go (Some q) e = refl

        satisfied : (c : ℕ → Bool) → HoldsRecurring a word c → holds condition c ≡ true
        satisfied c just = elim (cases_Bool (holds condition c)) [
          | inl t ↦ t
          | inr f ↦
              absurd (not_without (complete.met b wide) b.bound 0 (λ s le. completed.bounded (complete.state_at b wide s) (wide s)) (λ (p, g).
              elim (parity_of p) [
                | inl even ↦
                    let m = meets_between a word (complete.met b wide) is letters_in same_met endless in
                    let k : false ≡ true = sym f ∙ (has.tells c).1
                    ((even_iff a.shape a.sets (λ t. sets_of (step_at a word t)) (between (complete.met b wide)) c p has.has_sets m
                    (between_greatest (complete.met b wide) p g) just).0 even) in
                    cc k
                | inr odd ↦ accepted (p, g, odd)
              ]))
        ]

pub accepted_alike : (a : Automaton) (propositions : ℕ) (b : complete.Automaton) (word : ℕ → ℕ) (condition : Formula) → IsAutomaton a
    → IsCompleted a propositions b → FitsShape condition a.sets a.shape → IsWordOver propositions word
    → IsAccepted a condition (own_word a word) ↔ complete.IsAccepted b word
accepted_alike a propositions b word condition is completed fits inside =
    let has = shape_of_fits condition a.sets a.shape fits in
    (to a propositions b word is completed inside condition has, from a propositions b word is completed inside condition has)
