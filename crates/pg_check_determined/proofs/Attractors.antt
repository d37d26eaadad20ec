-- Attractors: where a player can bring every play of a subgame into a target.
use Rattle.pg_check_determined.proofs.Common.{◌≡◌, ℕ, zero, suc, ◌<◌, ◌≤◌, ◌⊎◌, inl, inr, Bool, true, false, cond, eqb, arith, sym, subst, refl}
use Rattle.pg_check_determined.proofs.Common.{◌∙◌, cases_Bool, eqb-true, eq-eqb, Player, opponent, player_cases, not_both}
use Rattle.pg_check_determined.proofs.Sets.{Has, Lacks, clash, minus, in_minus, minus_in, size, size_less, search_below}

module _ (n : ℕ) (Edge : ℕ → ℕ → Type 0) (owner : ℕ → Player) where
  -- some vertices below n, each with an edge to one of them
  pub record Subgame (S : ℕ → Bool) : Type 0 where
    pub below : (v : ℕ) → Has S v → v < n
    pub goes_on : (v : ℕ) → Has S v → (w : ℕ) × Edge v w × Has S w

  -- A set around the target, with ranks, 0 in the target alone: from the others the player's choice, and each edge
  -- of the opponent in S, leads to a lesser rank.
  pub record Attraction (S U : ℕ → Bool) (i : Player) : Type 0 where
    pub set : ℕ → Bool
    pub rank : ℕ → ℕ
    pub choice : ℕ → ℕ
    pub top : ℕ
    pub inside : (v : ℕ) → Has set v → Has S v
    pub base : (v : ℕ) → Has U v → Has set v
    pub base_rank : (v : ℕ) → Has U v → rank v ≡ 0
    pub ranked : (v : ℕ) → Has set v → rank v ≡ 0 → Has U v
    pub positive : 0 < top
    pub limit : (v : ℕ) → Has set v → rank v < top
    pub own : (v : ℕ) → Has set v → 0 < rank v → owner v ≡ i
        → Edge v (choice v) × Has set (choice v) × (rank (choice v) < rank v)
    pub other : (v : ℕ) → Has set v → 0 < rank v → owner v ≡ opponent i
        → (w : ℕ) → Edge v w → Has S w → Has set w × (rank w < rank v)

  -- v can be added by an edge to w
  pub record IsPulled (S U : ℕ → Bool) (i : Player) (a : Attraction S U i) (v w : ℕ) : Type 0 where
    pub has : Has S v
    pub lacks : Lacks a.set v
    pub own : owner v ≡ i → Edge v w × Has a.set w
    pub other : owner v ≡ opponent i → (u : ℕ) → Edge v u → Has S u → Has a.set u

  -- v can't be added
  pub record IsFree (S U : ℕ → Bool) (i : Player) (a : Attraction S U i) (v : ℕ) : Type 0 where
    pub own : owner v ≡ i → (w : ℕ) → Edge v w → Lacks a.set w
    pub other : owner v ≡ opponent i → (w : ℕ) × Edge v w × Has S w × Lacks a.set w

  pub start : (S U : ℕ → Bool) (i : Player) → ((v : ℕ) → Has U v → Has S v) → Attraction S U i
  start S U i sub = record {
    set = U;
    rank = λ v. 0;
    choice = λ v. v;
    top = 1;
    inside = sub;
    base = λ v h. h;
    base_rank = λ v h. refl;
    ranked = λ v h e. h;
    positive = omega arith;
    limit = λ v h. omega arith;
    own = λ v h lt e. absurd (omega arith);
    other = λ v h lt e w edge s. absurd (omega arith);
  }

  module _ (S U : ℕ → Bool) (i : Player) where
    grow : (a : Attraction S U i) (v w : ℕ) → IsPulled S U i a v w
        → (b : Attraction S U i) × ((m : ℕ) → v < m → size (minus S b.set) m < size (minus S a.set) m)
    grow a v w p = (
      record {
        set = set;
        rank = rank;
        choice = choice;
        top = suc a.top;
        inside = λ x h. elim (split x h) [
          | inl e ↦ subst (Has S) (sym e) p.has
          | inr k ↦ a.inside x k.0
        ];
        base = λ x u. (old x (a.base x u)).0;
        base_rank = λ x u. (old x (a.base x u)).1 ∙ a.base_rank x u;
        ranked = λ x h e. elim (split x h) [
          | inl f ↦ let k : rank v ≡ 0 = subst (λ y. rank y ≡ 0) f e in let pos = a.positive in absurd (omega (arith, k, new.1, pos))
          | inr k ↦ a.ranked x k.0 (sym k.1 ∙ e)
        ];
        positive = omega arith;
        limit = λ x h. elim (split x h) [
          | inl f ↦ let k : rank x ≡ a.top = subst (λ y. rank y ≡ a.top) (sym f) new.1 in omega (arith, k)
          | inr k ↦ let e : rank x ≡ a.rank x = k.1 in let lt = a.limit x k.0 in omega (arith, e, lt)
        ];
        own = λ x h pos e. elim (split x h) [
          | inl f ↦ subst (λ y. Edge y (choice y) × Has set (choice y) × (rank (choice y) < rank y)) (sym f)
              (let o = p.own (subst (λ y. owner y ≡ i) f e) in
              let k = old w o.1 in
              let lt = a.limit w o.1 in
              subst (λ y. Edge v y × Has set y × (rank y < rank v)) (sym new.2)
              (o.0, k.0, let r : rank w ≡ a.rank w = k.1 in let s : rank v ≡ a.top = new.1 in omega (arith, r, s, lt)))
          | inr k ↦
              let r : rank x ≡ a.rank x = k.1 in
              let o = a.own x k.0 (omega (arith, r, pos)) e in
              let q = old (a.choice x) o.1 in
              subst (λ y. Edge x y × Has set y × (rank y < rank x)) (sym k.2)
              (o.0, q.0, let t : rank (a.choice x) ≡ a.rank (a.choice x) = q.1 in let lt : a.rank (a.choice x) < a.rank x = o.2 in omega (arith, r, t, lt))
        ];
        other = λ x h pos e y edge s. elim (split x h) [
          | inl f ↦
              let here = p.other (subst (λ z. owner z ≡ opponent i) f e) y (subst (λ z. Edge z y) f edge) s in
              let q = old y here in (
                q.0,
                let r : rank y ≡ a.rank y = q.1 in let t : rank x ≡ a.top = subst (λ z. rank z ≡ a.top) (sym f) new.1 in
                    let lt = a.limit y here in omega (arith, r, t, lt),
              )
          | inr k ↦
              let r : rank x ≡ a.rank x = k.1 in
              let o = a.other x k.0 (omega (arith, r, pos)) e y edge s in
              let q = old y o.0 in
              (q.0, let t : rank y ≡ a.rank y = q.1 in let lt : a.rank y < a.rank x = o.1 in omega (arith, r, t, lt))
        ];
      },
      λ m lt. size_less (minus S set) (minus S a.set)
          (λ x h. let k = minus_in S set x h in in_minus S a.set x k.0 (not_old x k.1))
          v (less_here) (in_minus S a.set v p.has p.lacks) m lt,
    )
      where
        set : ℕ → Bool
        set x = cond (eqb x v) true (a.set x)

        rank : ℕ → ℕ
        rank x = cond (eqb x v) a.top (a.rank x)

        choice : ℕ → ℕ
        choice x = cond (eqb x v) w (a.choice x)

        new : Has set v × (rank v ≡ a.top) × (choice v ≡ w)
        new = let e = eq-eqb v v refl in (rw e, rw e, rw e)

        at_other : (x : ℕ) → eqb x v ≡ false → (set x ≡ a.set x) × (rank x ≡ a.rank x) × (choice x ≡ a.choice x)
        at_other x e = (rw e, rw e, rw e)

        old : (x : ℕ) → Has a.set x → Has set x × (rank x ≡ a.rank x) × (choice x ≡ a.choice x)
        old x h = elim (cases_Bool (eqb x v)) [
          | inl t ↦ absurd (clash (a.set v) (subst (Has a.set) (eqb-true x v t) h) p.lacks)
          | inr f ↦ let o = at_other x f in (o.0 ∙ h, o.1, o.2)
        ]

        split : (x : ℕ) → Has set x → (x ≡ v) ⊎ (Has a.set x × (rank x ≡ a.rank x) × (choice x ≡ a.choice x))
        split x h = elim (cases_Bool (eqb x v)) [
          | inl t ↦ inl (eqb-true x v t)
          | inr f ↦ let o = at_other x f in inr (sym o.0 ∙ h, o.1, o.2)
        ]

        not_old : (x : ℕ) → Lacks set x → Lacks a.set x
        not_old x l = elim (cases_Bool (a.set x)) [
          | inl t ↦ absurd (clash (set x) (old x t).0 l)
          | inr f ↦ f
        ]

        less_here : Lacks (minus S set) v
        less_here = let e : set v ≡ true = new.0 in rw e

  module _ (find : (P Q : ℕ → Type 0) → ((w : ℕ) → P w ⊎ Q w) → (v : ℕ) → ((w : ℕ) × Edge v w × P w) ⊎ ((w : ℕ) → Edge v w → Q w))
      (S U : ℕ → Bool) (i : Player) where
    pulled_or_free : (a : Attraction S U i) (v : ℕ)
        → ((w : ℕ) × IsPulled S U i a v w) ⊎ (Has S v → Lacks a.set v → IsFree S U i a v)
    pulled_or_free a v = elim (cases_Bool (S v)) [
      | inr l ↦ inr (λ h. absurd (clash (S v) h l))
      | inl s ↦ elim (cases_Bool (a.set v)) [
        | inl t ↦ inr (λ h l. absurd (clash (a.set v) t l))
        | inr l ↦ elim (player_cases (owner v) i) [
          | inl e ↦ elim (find (Has a.set) (Lacks a.set) (λ w. cases_Bool (a.set w)) v) [
            | inl f ↦ inl (f.0, record { has = s; lacks = l; own = λ _. (f.1, f.2); other = λ k. absurd (not_both (owner v) i e k) })
            | inr none ↦ inr (λ _ _. record { own = λ _. none; other = λ k. absurd (not_both (owner v) i e k) })
          ]
          | inr e ↦ elim (find (λ w. Has S w × Lacks a.set w) (λ w. Has S w → Has a.set w) (open_or_not a) v) [
            | inl f ↦ inr (λ _ _. record { own = λ k. absurd (not_both (owner v) i k e); other = λ _. (f.0, f.1, f.2.0, f.2.1) })
            | inr all ↦ inl (v, record { has = s; lacks = l; own = λ k. absurd (not_both (owner v) i k e); other = λ _. all })
          ]
        ]
      ]
    ]
      where
        open_or_not : (a : Attraction S U i) (w : ℕ) → (Has S w × Lacks a.set w) ⊎ (Has S w → Has a.set w)
        open_or_not a w = elim (cases_Bool (a.set w)) [
          | inl t ↦ inr (λ _. t)
          | inr l ↦ elim (cases_Bool (S w)) [
            | inl s ↦ inl (s, l)
            | inr o ↦ inr (λ s. absurd (clash (S w) s o))
          ]
        ]

    -- what isn't attracted is free
    abbrev pub IsMaximal : Attraction S U i → Type 0
    IsMaximal a = (v : ℕ) → Has S v → Lacks a.set v → IsFree S U i a v

    next : Subgame S → (a : Attraction S U i) → ((v : ℕ) × (v < n) × ((w : ℕ) × IsPulled S U i a v w)) ⊎ IsMaximal a
    next sub a = elim (search_below (λ v. (w : ℕ) × IsPulled S U i a v w)
        (λ v. Has S v → Lacks a.set v → IsFree S U i a v) (pulled_or_free a) n) [
          | inl f ↦ inl f
          | inr free ↦ inr (λ v s. free v (sub.below v s) s)
        ]

    fill : Subgame S → (k : ℕ) (a : Attraction S U i) → size (minus S a.set) n ≤ k → (b : Attraction S U i) × IsMaximal b
    fill sub zero a le = elim (next sub a) [
      | inl f ↦ let less = (grow S U i a f.0 f.2.0 f.2.1).1 n f.1 in absurd (omega (arith, less))
      | inr max ↦ (a, max)
    ]
    fill sub (suc k) a le = elim (next sub a) [
      | inl f ↦
          let g = grow S U i a f.0 f.2.0 f.2.1 in
          let less = g.1 n f.1 in
          fill sub k g.0 (omega (arith, less))
      | inr max ↦ (a, max)
    ]

    -- what is left is a subgame
    pub rest_goes_on : Subgame S → (a : Attraction S U i) → IsMaximal a → Subgame (minus S a.set)
    rest_goes_on sub a max = record {
      below = λ v h. sub.below v (minus_in S a.set v h).0;
      goes_on = λ v h.
          let k = minus_in S a.set v h in
          let free = max v k.0 k.1 in
          elim (player_cases (owner v) i) [
            | inl e ↦ let g = sub.goes_on v k.0 in (g.0, g.1, in_minus S a.set g.0 g.2 (free.own e g.0 g.1))
            | inr e ↦ let f = free.other e in (f.0, f.1, in_minus S a.set f.0 f.2 f.3)
          ];
    }

    pub attract : Subgame S → ((v : ℕ) → Has U v → Has S v) → (b : Attraction S U i) × IsMaximal b
    attract sub inside = let a = start S U i inside in fill sub (size (minus S a.set) n) a (omega arith)
