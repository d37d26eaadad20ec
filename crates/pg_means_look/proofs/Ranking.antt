-- A certificate shows that a product is empty.
use Rattle.std.proofs.Common.{◌≡◌, ◌≢◌, ◌↔◌, ℕ, zero, suc, ◌+◌, ◌-◌, ◌%◌, ◌<◌, ◌≤◌, ◌⊎◌, inl, inr, Bool, List, [], ◌∷◌, Option, Some, None, arith, refl, sym, subst, ap, ◌∙◌}
use Rattle.pg_ltl.specs.NormalForms.{NormalForm, Holds, dual}
use Rattle.pg_ltl.specs.Tableaux.{Each, Choice, choices_of, IsPutOff, IsRight, IsAmong, IsLeftOut}
use Rattle.pg_means_look.specs.Automata.{Automaton, IsBounded, IsWord, state_at, met, IsAbsentFrom, IsGreatestRecurring, IsAccepted}
use Rattle.pg_means_look.specs.Certificates.{Certificate, Stays, Goes, IsEmptyBy}
use Rattle.pg_ltl.proofs.Holding.{stable, duality}
use Rattle.pg_ltl.proofs.Choosing.{each_map, each_among, covered_all, not_for_ever}

not_not_decided : (A : Type 0) → ¬ ¬ (A ⊎ ¬ A)
not_not_decided A k = k (inr (λ a. k (inl a)))

pub not_without : (priorities : ℕ → ℕ) (bound t : ℕ) → ((s : ℕ) → t ≤ s → priorities s < bound)
    → ¬ ¬ ((p : ℕ) × IsGreatestRecurring priorities p)
not_without priorities zero t below none = let h : priorities t < 0 = below t (omega arith) in omega arith
not_without priorities (suc b) t below none =
    not_not_decided ((u : ℕ) × IsAbsentFrom priorities b u)
    (elim [
      | inl a ↦ not_without priorities b (t + a.0)
          (λ s le. let ne : priorities s ≢ b = a.1 s (omega arith) in
          let lt : priorities s < suc b = below s (omega arith) in omega arith)
          none
      | inr recurs ↦ none (
        b,
        record {
          recurs = recurs;
          bounds = (t, λ s le. let lt : priorities s < suc b = below s le in omega arith);
        },
      )
    ])

module _ (a : Automaton) (f : NormalForm) (parity : ℕ) (cert : Certificate) (word : ℕ → ℕ) (p : ℕ) (empty : IsEmptyBy a f parity cert)
    (is_word : IsWord a word) (greatest : IsGreatestRecurring (met a word) p) (good : p % 2 ≡ parity) where
  abbrev told : ℕ → ℕ → Bool
  told t = a.on (word t)

  abbrev rank : ℕ → ℕ
  rank v = cert.rank p v

  -- the node stands for the step
  record At (t v : ℕ) : Type 0 where
    pub below : v < cert.count
    pub state : (cert.node v).state ≡ state_at a word t
    pub holds : Each (λ g. Holds told g t) (cert.node v).asks

  abbrev Kept : Option NormalForm → ℕ → Type 0
  Kept None t = met a word t ≢ p
  Kept (Some u) t = IsPutOff told u t

  record Next (t v : ℕ) : Type 0 where
    pub to : ℕ
    pub at : At (t + 1) to
    pub goes : (rank to < rank v) ⊎ ((rank to ≡ rank v) × Kept (cert.witness p (rank v)) t)

  kept : (w : Option NormalForm) (t : ℕ) (puts : List NormalForm) (priority : ℕ) → priority ≡ met a word t → Each (λ u. IsPutOff told u t) puts
      → Stays w p priority puts → Kept w t
  kept None t puts priority e off stays = λ same. stays (e ∙ same)
  kept (Some u) t puts priority e off stays = each_among (λ x. IsPutOff told x t) puts u off stays

  abbrev from : ℕ
  from = greatest.bounds.0

  next : (t v : ℕ) → from ≤ t → At t v → ¬ ¬ Next t v
  next t v le at none =
      covered_all told (cert.node v).asks t at.holds
      (each_map (Goes a cert parity v (word t)) (λ c. ¬ IsRight told t c) (choices_of (told t) (cert.node v).asks)
      (λ c g right.
      let there : met a word t ≤ p = greatest.bounds.1 t le in
      let e : a.priority (cert.node v).state (word t) ≡ met a word t = ap (λ q. a.priority q (word t)) at.state in
      let low : a.priority (cert.node v).state (word t) ≤ p = subst (λ n. n ≤ p) (sym e) there in
      let state : (cert.node g.to).state ≡ state_at a word (suc t) = g.state ∙ ap (λ q. a.target q (word t)) at.state in
      let one : suc t ≡ t + 1 = omega arith in
      none (record {
        to = g.to;
        at = record {
          below = g.below;
          state = subst (λ s. (cert.node g.to).state ≡ state_at a word s) one state;
          holds = each_map (IsAmong c.asks) (λ h. Holds told h (t + 1)) (cert.node g.to).asks
              (λ h i. each_among (λ x. Holds told x (t + 1)) c.asks h right.asks i) g.fewer;
        };
        goes = elim (g.fine p good low) [
          | inl lt ↦ inl lt
          | inr s ↦ inr (s.0, kept (cert.witness p (rank v)) t c.puts (a.priority (cert.node v).state (word t)) e right.puts s.1)
        ];
      }))
      (empty.goes v (word t) at.below (is_word t)))

  abbrev Beside : ℕ → ℕ → ℕ → Type 0
  Beside v t w = At t w × (rank w ≡ rank v)

  -- where nothing of a lower rank stands for a step, nothing of this rank does
  module _ (n t v : ℕ) (le : from ≤ t) (at : At t v) (top : rank v < suc n) (lower : (s w : ℕ) → from ≤ s → rank w < n → ¬ At s w) where
    not_lower : (s w x : ℕ) → from ≤ s → At s w → rank x ≡ rank v → ¬ (rank w < rank x)
    not_lower s w x later here same less = lower s w later (omega arith) here

    -- inside the rank for ever
    beside : (d : ℕ) → ¬ ¬ ((w : ℕ) × Beside v (t + d) w)
    beside zero k =
        let e : t ≡ t + 0 = omega arith in
        k (v, (subst (λ s. At s v) e at, refl))
    beside (suc d) k =
        let e : (t + d) + 1 ≡ t + suc d = omega arith in
        let on : from ≤ t + d = omega arith in
        let then : from ≤ (t + d) + 1 = omega arith in
        beside d (λ b. next (t + d) b.0 on b.1.0 (λ m. elim m.goes [
          | inl less ↦ not_lower ((t + d) + 1) m.to b.0 then m.at b.1.1 less
          | inr stays ↦ k (m.to, (subst (λ s. At s m.to) e m.at, stays.0 ∙ b.1.1))
        ]))

    -- so what keeps it inside is so at each step
    always : (s : ℕ) → t ≤ s → ¬ ¬ Kept (cert.witness p (rank v)) s
    always s later k =
        let e : t + (s - t) ≡ s = omega arith in
        let on : from ≤ s = omega arith in
        let then : from ≤ s + 1 = omega arith in
        beside (s - t) (λ b. next s b.0 on (subst (λ x. At x b.0) e b.1.0) (λ m. elim m.goes [
          | inl less ↦ not_lower (s + 1) m.to b.0 then m.at b.1.1 less
          | inr stays ↦ k (subst (λ r. Kept (cert.witness p r) s) b.1.1 stays.1)
        ]))

    by_witness : (w : Option NormalForm) → cert.witness p (rank v) ≡ w → ⊥
    by_witness None e =
        greatest.recurs (t, λ s later same. always s later (λ kept_here. (subst (λ x. Kept x s) e kept_here) same))
    by_witness (Some u) e =
        not_for_ever told u t (λ s later no. always s later (λ kept_here. no (subst (λ x. Kept x s) e kept_here)))

  -- nothing stands for a step from there on, whatever its rank
  none_at : (n t v : ℕ) → from ≤ t → rank v < n → ¬ At t v
  none_at zero t v le lt at = absurd (omega arith)
  none_at (suc n) t v le lt at = by_witness n t v le at lt (none_at n) (cert.witness p (rank v)) refl

  -- from the start to any step
  reached : Holds told f 0 → (d : ℕ) → ¬ ¬ ((w : ℕ) × At d w)
  reached h zero k = k (
    empty.start,
    record {
      below = empty.below;
      state = empty.state;
      holds = each_map (IsAmong (f ∷ [])) (λ g. Holds told g 0) (cert.node empty.start).asks
          (λ g i. each_among (λ x. Holds told x 0) (f ∷ []) g (h, tt) i) empty.fewer;
    },
  )
  reached h (suc d) k = reached h d (λ b. onward d b.0 b.1 (λ c. k c))
    where
      -- before the priorities are bounded, without ranks
      onward : (t v : ℕ) → At t v → ¬ ¬ ((w : ℕ) × At (suc t) w)
      onward t v at none =
          covered_all told (cert.node v).asks t at.holds
          (each_map (Goes a cert parity v (word t)) (λ c. ¬ IsRight told t c) (choices_of (told t) (cert.node v).asks)
          (λ c g right.
          let one : t + 1 ≡ suc t = omega arith in
          none (
            g.to,
            record {
              below = g.below;
              state = g.state ∙ ap (λ q. a.target q (word t)) at.state;
              holds = subst (λ s. Each (λ h. Holds told h s) (cert.node g.to).asks) one
                  (each_map (IsAmong c.asks) (λ h. Holds told h (t + 1)) (cert.node g.to).asks
                  (λ h i. each_among (λ x. Holds told x (t + 1)) c.asks h right.asks i) g.fewer);
            },
          ))
          (empty.goes v (word t) at.below (is_word t)))

  pub none_holds : ¬ Holds told f 0
  none_holds h = reached h from (λ b. none_at (suc (rank b.0)) from b.0 (omega arith) (omega arith) b.1)

pub same : (a : Automaton) (f : NormalForm) (first second : Certificate) (word : ℕ → ℕ) → IsBounded a → IsEmptyBy a (dual f) 0 first
    → IsEmptyBy a f 1 second → IsWord a word → IsAccepted a word ↔ Holds (λ t. a.on (word t)) f 0
same a f first second word bounded one two is_word = (
  λ accepted. stable (λ t. a.on (word t)) f 0 (λ fails.
      not_without (met a word) a.bound 0 (λ s le. bounded (state_at a word s) (word s)) (λ g.
      elim (parity_of g.0) [
        | inl even ↦ none_holds a (dual f) 0 first word g.0 one is_word g.1 even ((duality (λ t. a.on (word t)) f 0).1 fails)
        | inr odd ↦ accepted (g.0, g.1, odd)
      ])),
  λ holds rejected. none_holds a f 1 second word rejected.0 two is_word rejected.1 rejected.2 holds,
)
  where
    parity_of : (p : ℕ) → (p % 2 ≡ 0) ⊎ (p % 2 ≡ 1)
    parity_of p = grind arith

among_more : (fs gs : List NormalForm) (f : NormalForm) → Each (IsAmong gs) fs → IsAmong fs f → IsAmong gs f
among_more fs gs f all i = each_among (IsAmong gs) fs f all i

stays_more : (w : Option NormalForm) (p priority : ℕ) (puts more : List NormalForm) → Each (IsAmong more) puts → Stays w p priority puts
    → Stays w p priority more
stays_more None p priority puts more all stays = stays
stays_more (Some u) p priority puts more all stays = among_more puts more u all stays

module _ (a : Automaton) (cert : Certificate) (parity v l : ℕ) where
  goes_more : (c : Choice) (kept : List Choice) → IsLeftOut c kept → Each (Goes a cert parity v l) kept → Goes a cert parity v l c
  goes_more c [] out goes = absurd out
  goes_more c (d ∷ ds) (inr out) goes = goes_more c ds out goes.1
  goes_more c (d ∷ ds) (inl out) goes =
      let g = goes.0 in
      record {
        to = g.to;
        below = g.below;
        state = g.state;
        fewer = each_map (IsAmong d.asks) (IsAmong c.asks) (cert.node g.to).asks (λ f i. among_more d.asks c.asks f out.0 i) g.fewer;
        fine = λ p good low. elim (g.fine p good low) [
          | inl less ↦ inl less
          | inr s ↦ inr (s.0, stays_more (cert.witness p (cert.rank p v)) p (a.priority (cert.node v).state l) d.puts c.puts out.1 s.1)
        ];
      }

  pub pruned : (all kept : List Choice) → Each (λ c. IsLeftOut c kept) all → Each (Goes a cert parity v l) kept
      → Each (Goes a cert parity v l) all
  pruned all kept out goes = each_map (λ c. IsLeftOut c kept) (Goes a cert parity v l) all (λ c o. goes_more c kept o goes) out

pub pruning : (a : Automaton) (cert : Certificate) (parity v l : ℕ) (all kept : List Choice) → Each (λ c. IsLeftOut c kept) all
    → Each (Goes a cert parity v l) kept → Each (Goes a cert parity v l) all
pruning a cert parity v l all kept out goes = pruned a cert parity v l all kept out goes

-- two formulas of which no word satisfies both, and none neither
pub between : (a : Automaton) (f g : NormalForm) (first second : Certificate) (word : ℕ → ℕ) (Says : Type 0) → IsBounded a
    → IsEmptyBy a g 0 first → IsEmptyBy a f 1 second → IsWord a word → (Says ↔ Holds (λ t. a.on (word t)) f 0)
    → ((¬ Says) ↔ Holds (λ t. a.on (word t)) g 0) → IsAccepted a word ↔ Says
between a f g first second word Says bounded cert_one cert_two is_word says_yes says_no = (
  λ accepted. says_yes.1 (stable (λ t. a.on (word t)) f 0 (λ fails.
      not_without (met a word) a.bound 0 (λ s le. bounded (state_at a word s) (word s)) (λ r.
      elim (parity_of r.0) [
        | inl even ↦ none_holds a g 0 first word r.0 cert_one is_word r.1 even (says_no.0 (λ s. fails (says_yes.0 s)))
        | inr odd ↦ accepted (r.0, r.1, odd)
      ]))),
  λ says rejected. none_holds a f 1 second word rejected.0 cert_two is_word rejected.1 rejected.2 (says_yes.0 says),
)
  where
    parity_of : (p : ℕ) → (p % 2 ≡ 0) ⊎ (p % 2 ≡ 1)
    parity_of p = grind arith
