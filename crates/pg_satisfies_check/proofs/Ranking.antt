-- No run of any system satisfies a formula, where nodes with ranks stand for its steps.
use Rattle.std.proofs.Common.{◌≡◌, ℕ, zero, suc, ◌+◌, ◌-◌, ◌<◌, ◌≤◌, ◌⊎◌, inl, inr, Bool, List, [], ◌∷◌, Option, Some, None, arith, refl, subst, ◌∙◌}
use Rattle.pg_ltl.specs.NormalForms.{NormalForm, Holds}
use Rattle.pg_ltl.specs.Tableaux.{Each, Choice, choices_of, IsPutOff, IsRight, IsAmong}
use Rattle.pg_ltl.proofs.Choosing.{each_map, each_among, covered_all, not_for_ever}
use Rattle.pg_satisfies_check.specs.Certificates.{Stays}

-- steps of any type V, of which `Stands v u` says that the node v stands for the step u
module _ (V : Type 0) (on : V → ℕ → Bool) (Stands : ℕ → V → Type 0) (Follows : V → V → Type 0) (asks : ℕ → List NormalForm) (rank : ℕ → ℕ)
    (witness : ℕ → Option NormalForm) where
  pub record GoesTo (v : ℕ) (u : V) (c : Choice) : Type 0 where
    pub to : ℕ
    pub stands : (w : V) → Follows u w → Stands to w
    pub fewer : Each (IsAmong c.asks) (asks to)
    pub fine : (rank to < rank v) ⊎ ((rank to ≡ rank v) × Stays (witness (rank v)) c.puts)

  module _ (goes : (v : ℕ) (u : V) → Stands v u → ¬ ¬ Each (GoesTo v u) (choices_of (on u) (asks v))) (run : ℕ → V)
      (follows : (t : ℕ) → Follows (run t) (run (suc t))) where
    abbrev word : ℕ → ℕ → Bool
    word t = on (run t)

    -- the node stands for the step
    record At (t v : ℕ) : Type 0 where
      pub stands : Stands v (run t)
      pub holds : Each (λ g. Holds word g t) (asks v)

    abbrev Kept : Option NormalForm → ℕ → Type 0
    Kept None t = ⊥
    Kept (Some u) t = IsPutOff word u t

    record Next (t v : ℕ) : Type 0 where
      pub to : ℕ
      pub at : At (suc t) to
      pub goes_there : (rank to < rank v) ⊎ ((rank to ≡ rank v) × Kept (witness (rank v)) t)

    kept : (w : Option NormalForm) (t : ℕ) (puts : List NormalForm) → Each (λ u. IsPutOff word u t) puts → Stays w puts → Kept w t
    kept None t puts off stays = stays
    kept (Some u) t puts off stays = each_among (λ x. IsPutOff word x t) puts u off stays

    next : (t v : ℕ) → At t v → ¬ ¬ Next t v
    next t v at none = goes v (run t) at.stands wrong
      where
        step : (c : Choice) → GoesTo v (run t) c → IsRight word t c → Next t v
        step c g right =
            let one : t + 1 ≡ suc t = omega arith in
            record {
              to = g.to;
              at = record {
                stands = g.stands (run (suc t)) (follows t);
                holds = subst (λ s. Each (λ h. Holds word h s) (asks g.to)) one
                    (each_map (IsAmong c.asks) (λ h. Holds word h (t + 1)) (asks g.to)
                    (λ h i. each_among (λ x. Holds word x (t + 1)) c.asks h right.asks i) g.fewer);
              };
              goes_there = elim g.fine [
                | inl lt ↦ inl lt
                | inr s ↦ inr (s.0, kept (witness (rank v)) t c.puts right.puts s.1)
              ];
            }

        wrong : ¬ Each (GoesTo v (run t)) (choices_of (word t) (asks v))
        wrong each =
            covered_all word (asks v) t at.holds
            (each_map (GoesTo v (run t)) (λ c. ¬ IsRight word t c) (choices_of (word t) (asks v)) (λ c g right. none (step c g right)) each)

    abbrev Beside : ℕ → ℕ → ℕ → Type 0
    Beside v t w = At t w × (rank w ≡ rank v)

    -- where nothing of a lower rank stands for a step, nothing of this rank does
    module _ (n t v : ℕ) (at : At t v) (top : rank v < suc n) (lower : (s w : ℕ) → rank w < n → ¬ At s w) where
      not_lower : (s w x : ℕ) → At s w → rank x ≡ rank v → ¬ (rank w < rank x)
      not_lower s w x here same less = lower s w (omega arith) here

      -- inside the rank for ever
      beside : (d : ℕ) → ¬ ¬ ((w : ℕ) × Beside v (t + d) w)
      beside zero k =
          let e : t ≡ t + 0 = omega arith in
          k (v, (subst (λ s. At s v) e at, refl))
      beside (suc d) k =
          let e : suc (t + d) ≡ t + suc d = omega arith in
          beside d (λ b. next (t + d) b.0 b.1.0 (λ m. elim m.goes_there [
            | inl less ↦ not_lower (suc (t + d)) m.to b.0 m.at b.1.1 less
            | inr stays ↦ k (m.to, (subst (λ s. At s m.to) e m.at, stays.0 ∙ b.1.1))
          ]))

      -- so the Until is put off at each step
      always : (s : ℕ) → t ≤ s → ¬ ¬ Kept (witness (rank v)) s
      always s later k =
          let e : t + (s - t) ≡ s = omega arith in
          beside (s - t) (λ b. next s b.0 (subst (λ x. At x b.0) e b.1.0) (λ m. elim m.goes_there [
            | inl less ↦ not_lower (suc s) m.to b.0 m.at b.1.1 less
            | inr stays ↦ k (subst (λ r. Kept (witness r) s) b.1.1 stays.1)
          ]))

      by_witness : (w : Option NormalForm) → witness (rank v) ≡ w → ⊥
      by_witness None e = always t (omega arith) (λ kept_here. subst (λ x. Kept x t) e kept_here)
      by_witness (Some u) e =
          not_for_ever word u t (λ s later no. always s later (λ kept_here. no (subst (λ x. Kept x s) e kept_here)))

    -- nothing stands for any step, whatever its rank
    none_at : (n t v : ℕ) → rank v < n → ¬ At t v
    none_at zero t v lt at = absurd (omega arith)
    none_at (suc n) t v lt at = by_witness n t v at lt (none_at n) (witness (rank v)) refl

    pub none_holds : (f : NormalForm) (start : ℕ) → Stands start (run 0) → Each (IsAmong (f ∷ [])) (asks start) → ¬ Holds word f 0
    none_holds f start stands fewer h =
        none_at (suc (rank start)) 0 start (omega arith) (record {
          stands = stands;
          holds = each_map (IsAmong (f ∷ [])) (λ g. Holds word g 0) (asks start)
              (λ g i. each_among (λ x. Holds word x 0) (f ∷ []) g (h, tt) i) fewer;
        })
