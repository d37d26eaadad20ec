-- Each subgame is solved: by induction on its size, with an attractor of the vertices of the greatest priority and
-- one of what the opponent wins outside of it.
use Rattle.pg_check_determined.proofs.Common.{◌≡◌, ℕ, zero, suc, ◌%◌, ◌<◌, ◌≤◌, ◌⊎◌, inl, inr, Bool, true, false, cond, eqb, List, [], ◌∷◌, ◌++◌}
use Rattle.pg_check_determined.proofs.Common.{arith, sym, subst, refl, ◌∙◌, cases_Bool, cases_lt, eqb-true, eq-eqb, Player, Even, Odd}
use Rattle.pg_check_determined.proofs.Common.{HasParityOf, IsPath, opponent, parity_of, player_cases}
use Rattle.pg_check_determined.proofs.Sets.{Has, Lacks, clash, minus, in_minus, minus_in, size, size_less, search_below, IsTop, top_below, pick_each}
use Rattle.pg_check_determined.proofs.Walks.{forward, back, after, starts}
use Rattle.pg_check_determined.proofs.Attractors.{Subgame, Attraction, IsMaximal, attract, rest_goes_on}

not_both_parities : (i : Player) (p : ℕ) → HasParityOf i p → HasParityOf (opponent i) p → ⊥
not_both_parities Even p a b = let a' : p % 2 ≡ 0 = a in let b' : p % 2 ≡ 1 = b in omega arith
not_both_parities Odd p a b = let a' : p % 2 ≡ 1 = a in let b' : p % 2 ≡ 0 = b in omega arith

abbrev is : Player → Player → Bool
is Even Even = true
is Even Odd = false
is Odd Even = false
is Odd Odd = true

is_same : (a b : Player) → is a b ≡ true → a ≡ b
is_same Even Even e = refl
is_same Even Odd e = absurd (cc e)
is_same Odd Even e = absurd (cc e)
is_same Odd Odd e = refl

same_is : (a b : Player) → a ≡ b → is a b ≡ true
same_is Even Even e = refl
same_is Even Odd e = absurd (cc e)
same_is Odd Even e = absurd (cc e)
same_is Odd Odd e = refl

module _ (n : ℕ) (Edge : ℕ → ℕ → Type 0) (owner : ℕ → Player) (priority : ℕ → ℕ) where
  -- an edge of the subgame that counts where w wins and c chooses
  pub record Goes (S : ℕ → Bool) (w : ℕ → Player) (c : ℕ → ℕ) (x y : ℕ) : Type 0 where
    pub from : Has S x
    pub to : Has S y
    pub edge : Edge x y
    pub chosen : owner x ≡ w x → y ≡ c x

  -- such an edge between vertices of priorities up to q
  pub record GoesUpTo (q : ℕ) (S : ℕ → Bool) (w : ℕ → Player) (c : ℕ → ℕ) (x y : ℕ) : Type 0 where
    pub goes : Goes S w c x y
    pub from_low : priority x ≤ q
    pub to_low : priority y ≤ q

  -- who wins where, and what the winner chooses: no such edge changes the winner, and there is no cycle through a
  -- vertex of the loser's parity and others of at most its priority
  pub record Solved (S : ℕ → Bool) : Type 0 where
    pub winner : ℕ → Player
    pub choice : ℕ → ℕ
    pub chooses : (v : ℕ) → Has S v → owner v ≡ winner v → Edge v (choice v) × Has S (choice v)
    pub keeps : (x y : ℕ) → Goes S winner choice x y → winner y ≡ winner x
    pub no_cycle : (v : ℕ) (rest : List ℕ) → HasParityOf (opponent (winner v)) (priority v)
        → ¬ IsPath (GoesUpTo (priority v) S winner choice) v (rest ++ v ∷ [])

  nothing : (S : ℕ → Bool) → Subgame n Edge owner S → ((v : ℕ) → v < n → Lacks S v) → Solved S
  nothing S sub none = record {
    winner = λ v. Even;
    choice = λ v. v;
    chooses = λ v h. absurd (no v h);
    keeps = λ x y g. refl;
    no_cycle = λ v rest _ path.
        let s = starts (GoesUpTo (priority v) S (λ v. Even) (λ v. v)) v rest v path in no v s.1.goes.from;
  }
    where
      no : (v : ℕ) → Has S v → ⊥
      no v h = clash (S v) h (none v (sub.below v h))

  module _ (find : (P Q : ℕ → Type 0) → ((w : ℕ) → P w ⊎ Q w) → (v : ℕ) → ((w : ℕ) × Edge v w × P w) ⊎ ((w : ℕ) → Edge v w → Q w))
      (S : ℕ → Bool) (sub : Subgame n Edge owner S) (i : Player) where
    -- the player wins all if the opponent wins nothing outside of the attractor of the greatest priority
    all_won : (p : ℕ) → HasParityOf i p → ((v : ℕ) → Has S v → priority v ≤ p)
        → (U : ℕ → Bool) → ((v : ℕ) → Has U v → Has S v × (priority v ≡ p))
        → (a : Attraction n Edge owner S U i)
        → (less : Solved (minus S a.set)) → ((v : ℕ) → Has (minus S a.set) v → less.winner v ≡ i) → Solved S
    all_won p parity greatest U target a less all = record {
      winner = λ v. i;
      choice = choice;
      chooses = chooses;
      keeps = λ x y g. refl;
      no_cycle = no_cycle;
    }
      where
        any : (f : ℕ → ℕ) × ((v : ℕ) → Has S v → Edge v (f v) × Has S (f v))
        any = pick_each (λ v w. Edge v w × Has S w) S (λ v h. let g = sub.goes_on v h in (g.0, (g.1, g.2)))

        choice : ℕ → ℕ
        choice v = cond (a.set v) (cond (U v) (any.0 v) (a.choice v)) (less.choice v)

        pulled : (v : ℕ) → Has a.set v → Lacks U v → (choice v ≡ a.choice v) × (0 < a.rank v)
        pulled v h l = (
          rw (h, l),
          elim (cases_lt 0 (a.rank v)) [
            | inl lt ↦ lt
            | inr ge ↦ absurd (clash (U v) (a.ranked v h (omega arith)) l)
          ],
        )

        later : (v : ℕ) → Lacks a.set v → choice v ≡ less.choice v
        later v l = rw l

        chooses : (v : ℕ) → Has S v → owner v ≡ i → Edge v (choice v) × Has S (choice v)
        chooses v h e = elim (cases_Bool (a.set v)) [
          | inl t ↦ elim (cases_Bool (U v)) [
            | inl u ↦ rw (t, u) (any.1 v h)
            | inr l ↦
                let k = pulled v t l in
                let o = a.own v t k.1 e in
                subst (λ w. Edge v w × Has S w) (sym k.0) (o.0, a.inside (a.choice v) o.1)
          ]
          | inr l ↦
              let m = in_minus S a.set v h l in
              let o = less.chooses v m (e ∙ sym (all v m)) in
              subst (λ w. Edge v w × Has S w) (sym (later v l)) (o.0, (minus_in S a.set (less.choice v) o.1).0)
        ]

        no_cycle : (v : ℕ) (rest : List ℕ) → HasParityOf (opponent i) (priority v)
            → ¬ IsPath (GoesUpTo (priority v) S (λ v. i) choice) v (rest ++ v ∷ [])
        no_cycle v rest odd path = elim (cases_Bool (a.set v)) [
          | inl t ↦
              let s = after (GoesUpTo (priority v) S (λ v. i) choice) (λ y. Has a.set y × (a.rank y < a.rank v)) v
              (λ y g. falls v y t g)
              (λ x y h g. let f = falls x y h.0 g in (f.0, let b : a.rank x < a.rank v = h.1 in let c : a.rank y < a.rank x = f.1 in omega arith))
              rest v path in
              let lt : a.rank v < a.rank v = s.1 in omega arith
          | inr l ↦
              let here = (starts (GoesUpTo (priority v) S (λ v. i) choice) v rest v path).1.goes.from in
              let b = back (GoesUpTo (priority v) S (λ v. i) choice) (GoesUpTo (priority v) (minus S a.set) less.winner less.choice)
              (Lacks a.set) outside v rest v path l in
              less.no_cycle v rest (subst (λ j. HasParityOf (opponent j) (priority v)) (sym (all v (in_minus S a.set v here l))) odd) b.0
        ]
          where
            low : priority v < p
            low =
                let le = greatest v (starts (GoesUpTo (priority v) S (λ v. i) choice) v rest v path).1.goes.from in
                elim (cases_lt (priority v) p) [
                  | inl lt ↦ lt
                  | inr ge ↦ let e : priority v ≡ p = omega (arith, le) in
                      absurd (not_both_parities i p parity (subst (HasParityOf (opponent i)) e odd))
                ]

            falls : (x y : ℕ) → Has a.set x → GoesUpTo (priority v) S (λ v. i) choice x y → Has a.set y × (a.rank y < a.rank x)
            falls x y h g = elim (cases_Bool (U x)) [
              | inl u ↦ let e : priority x ≡ p = (target x u).1 in let le = g.from_low in absurd (omega (arith, low, le, e))
              | inr l ↦
                  let k = pulled x h l in
                  elim (player_cases (owner x) i) [
                    | inl e ↦
                        let o = a.own x h k.1 e in
                        subst (λ z. Has a.set z × (a.rank z < a.rank x)) (sym (g.goes.chosen e ∙ k.0)) (o.1, o.2)
                    | inr e ↦ a.other x h k.1 e y g.goes.edge g.goes.to
                  ]
            ]

            outside : (x y : ℕ) → Lacks a.set y → GoesUpTo (priority v) S (λ v. i) choice x y
                → GoesUpTo (priority v) (minus S a.set) less.winner less.choice x y × Lacks a.set x
            outside x y l g = elim (cases_Bool (a.set x)) [
              | inl t ↦ absurd (clash (a.set y) (falls x y t g).0 l)
              | inr k ↦
                  let m = in_minus S a.set x g.goes.from k in (
                    record {
                      goes = record {
                        from = m;
                        to = in_minus S a.set y g.goes.to l;
                        edge = g.goes.edge;
                        chosen = λ e. g.goes.chosen (e ∙ all x m) ∙ later x k;
                      };
                      from_low = g.from_low;
                      to_low = g.to_low;
                    },
                    k,
                  )
            ]

    -- else the opponent wins the attractor of what it wins there, and the rest goes as it goes without that
    part_won : (U : ℕ → Bool) (a : Attraction n Edge owner S U i) → IsMaximal n Edge owner find S U i a
        → (less : Solved (minus S a.set))
        → (W : ℕ → Bool) → ((v : ℕ) → Has W v → Has (minus S a.set) v × (less.winner v ≡ opponent i))
        → ((v : ℕ) → Has (minus S a.set) v → less.winner v ≡ opponent i → Has W v)
        → (b : Attraction n Edge owner S W (opponent i)) → IsMaximal n Edge owner find S W (opponent i) b
        → (last : Solved (minus S b.set)) → Solved S
    part_won U a a_max less W of_W in_W b b_max last = record {
      winner = winner;
      choice = choice;
      chooses = chooses;
      keeps = keeps;
      no_cycle = no_cycle;
    }
      where
        j : Player
        j = opponent i

        winner : ℕ → Player
        winner v = cond (b.set v) j (last.winner v)

        choice : ℕ → ℕ
        choice v = cond (b.set v) (cond (W v) (less.choice v) (b.choice v)) (last.choice v)

        wins : (v : ℕ) → Has b.set v → winner v ≡ j
        wins v h = rw h

        later : (v : ℕ) → Lacks b.set v → (winner v ≡ last.winner v) × (choice v ≡ last.choice v)
        later v l = (rw l, rw l)

        inner : (v : ℕ) → Has W v → choice v ≡ less.choice v
        inner v h = let t : b.set v ≡ true = b.base v h in rw (t, h)

        pulled : (v : ℕ) → Has b.set v → Lacks W v → (choice v ≡ b.choice v) × (0 < b.rank v)
        pulled v h l = (
          rw (h, l),
          elim (cases_lt 0 (b.rank v)) [
            | inl lt ↦ lt
            | inr ge ↦ absurd (clash (W v) (b.ranked v h (omega arith)) l)
          ],
        )

        -- what the opponent wins outside of the attractor isn't left
        stays_inner : (x y : ℕ) → Has W x → Goes S winner choice x y → Goes (minus S a.set) less.winner less.choice x y × Has W y
        stays_inner x y h g = (goes, in_W y goes.to (less.keeps x y goes ∙ won))
          where
            here : Has (minus S a.set) x
            here = (of_W x h).0

            won : less.winner x ≡ j
            won = (of_W x h).1

            chosen : owner x ≡ j → y ≡ less.choice x
            chosen e = g.chosen (e ∙ sym (wins x (b.base x h))) ∙ inner x h

            to : Has (minus S a.set) y
            to = elim (player_cases (owner x) i) [
              | inl e ↦ let m = minus_in S a.set x here in in_minus S a.set y g.to ((a_max x m.0 m.1).own e y g.edge)
              | inr e ↦ subst (Has (minus S a.set)) (sym (chosen e)) (less.chooses x here (e ∙ sym won)).1
            ]

            goes : Goes (minus S a.set) less.winner less.choice x y
            goes = record { from = here; to = to; edge = g.edge; chosen = λ e. chosen (e ∙ won) }

        falls : (x y : ℕ) → Has b.set x → Lacks W x → Goes S winner choice x y → Has b.set y × (b.rank y < b.rank x)
        falls x y h l g =
            let k = pulled x h l in
            elim (player_cases (owner x) j) [
              | inl e ↦
                  let o = b.own x h k.1 e in
                  subst (λ z. Has b.set z × (b.rank z < b.rank x)) (sym (g.chosen (e ∙ sym (wins x h)) ∙ k.0)) (o.1, o.2)
              | inr e ↦ b.other x h k.1 e y g.edge g.to
            ]

        stays : (x y : ℕ) → Has b.set x → Goes S winner choice x y
            → Has b.set y × (b.rank y ≤ b.rank x) × (0 < b.rank x → b.rank y < b.rank x)
        stays x y h g = elim (cases_Bool (W x)) [
          | inl t ↦
              let k = (stays_inner x y t g).1 in
              let r : b.rank y ≡ 0 = b.base_rank y k in
              let s : b.rank x ≡ 0 = b.base_rank x t in
              (b.base y k, omega (arith, r), λ lt. absurd (omega (arith, s, lt)))
          | inr l ↦ let f = falls x y h l g in let lt : b.rank y < b.rank x = f.1 in (f.0, omega (arith, lt), λ _. lt)
        ]

        chooses : (v : ℕ) → Has S v → owner v ≡ winner v → Edge v (choice v) × Has S (choice v)
        chooses v h e = elim (cases_Bool (b.set v)) [
          | inl t ↦ elim (cases_Bool (W v)) [
            | inl u ↦
                let k = of_W v u in
                let o = less.chooses v k.0 (e ∙ wins v t ∙ sym k.1) in
                subst (λ w. Edge v w × Has S w) (sym (inner v u)) (o.0, (minus_in S a.set (less.choice v) o.1).0)
            | inr l ↦
                let k = pulled v t l in
                let o = b.own v t k.1 (e ∙ wins v t) in
                subst (λ w. Edge v w × Has S w) (sym k.0) (o.0, b.inside (b.choice v) o.1)
          ]
          | inr l ↦
              let k = later v l in
              let o = last.chooses v (in_minus S b.set v h l) (e ∙ k.0) in
              subst (λ w. Edge v w × Has S w) (sym k.1) (o.0, (minus_in S b.set (last.choice v) o.1).0)
        ]

        goes_last : (x y : ℕ) → Lacks b.set x → Lacks b.set y → Goes S winner choice x y
            → Goes (minus S b.set) last.winner last.choice x y
        goes_last x y k l g = record {
          from = in_minus S b.set x g.from k;
          to = in_minus S b.set y g.to l;
          edge = g.edge;
          chosen = λ e. let m = later x k in g.chosen (e ∙ sym m.0) ∙ m.1;
        }

        -- where the player wins, no edge that counts enters the attractor
        enters : (x y : ℕ) → Lacks b.set x → Has b.set y → Goes S winner choice x y → last.winner x ≡ j
        enters x y k t g = elim (player_cases (last.winner x) j) [
          | inl e ↦ e
          | inr e ↦ elim (player_cases (owner x) j) [
            | inl o ↦ absurd (clash (b.set y) t ((b_max x g.from k).own o y g.edge))
            | inr o ↦
                let m = later x k in
                let here = in_minus S b.set x g.from k in
                let same : owner x ≡ last.winner x = o ∙ sym e in
                let next = (minus_in S b.set (last.choice x) (last.chooses x here same).1).1 in
                absurd (clash (b.set y) t (subst (Lacks b.set) (sym (g.chosen (same ∙ sym m.0) ∙ m.1)) next))
          ]
        ]

        keeps : (x y : ℕ) → Goes S winner choice x y → winner y ≡ winner x
        keeps x y g = elim (cases_Bool (b.set x)) [
          | inl t ↦ wins y (stays x y t g).0 ∙ sym (wins x t)
          | inr k ↦ elim (cases_Bool (b.set y)) [
            | inl t ↦ wins y t ∙ sym (enters x y k t g) ∙ sym (later x k).0
            | inr l ↦ (later y l).0 ∙ last.keeps x y (goes_last x y k l g) ∙ sym (later x k).0
          ]
        ]

        no_cycle : (v : ℕ) (rest : List ℕ) → HasParityOf (opponent (winner v)) (priority v)
            → ¬ IsPath (GoesUpTo (priority v) S winner choice) v (rest ++ v ∷ [])
        no_cycle v rest odd path = elim (cases_Bool (b.set v)) [
          | inl t ↦ elim (cases_Bool (W v)) [
            | inl u ↦
                let f = forward (GoesUpTo (priority v) S winner choice) (GoesUpTo (priority v) (minus S a.set) less.winner less.choice)
                (Has W) inside v rest v path u in
                less.no_cycle v rest (subst (λ k. HasParityOf (opponent k) (priority v)) (wins v t ∙ sym (of_W v u).1) odd) f.0
            | inr l ↦
                let s = after (GoesUpTo (priority v) S winner choice) (λ y. Has b.set y × (b.rank y < b.rank v)) v
                (λ y g. falls v y t l g.goes)
                (λ x y h g. let f = stays x y h.0 g.goes in
                (f.0, let c : b.rank x < b.rank v = h.1 in let d : b.rank y ≤ b.rank x = f.1 in omega arith))
                rest v path in
                let lt : b.rank v < b.rank v = s.1 in omega arith
          ]
          | inr l ↦
              let f = back (GoesUpTo (priority v) S winner choice) (GoesUpTo (priority v) (minus S b.set) last.winner last.choice)
              (Lacks b.set) outside v rest v path l in
              last.no_cycle v rest (subst (λ k. HasParityOf (opponent k) (priority v)) (later v l).0 odd) f.0
        ]
          where
            inside : (x y : ℕ) → Has W x → GoesUpTo (priority v) S winner choice x y
                → GoesUpTo (priority v) (minus S a.set) less.winner less.choice x y × Has W y
            inside x y h g =
                let s = stays_inner x y h g.goes in
                (record { goes = s.0; from_low = g.from_low; to_low = g.to_low }, s.1)

            outside : (x y : ℕ) → Lacks b.set y → GoesUpTo (priority v) S winner choice x y
                → GoesUpTo (priority v) (minus S b.set) last.winner last.choice x y × Lacks b.set x
            outside x y l g = elim (cases_Bool (b.set x)) [
              | inl t ↦ absurd (clash (b.set y) (stays x y t g.goes).0 l)
              | inr k ↦ (record { goes = goes_last x y k l g.goes; from_low = g.from_low; to_low = g.to_low }, k)
            ]

  module _ (find : (P Q : ℕ → Type 0) → ((w : ℕ) → P w ⊎ Q w) → (v : ℕ) → ((w : ℕ) × Edge v w × P w) ⊎ ((w : ℕ) → Edge v w → Q w)) where
    smaller : (S T : ℕ → Bool) → ((v : ℕ) → Has T v → Has S v) → (v k : ℕ) → v < n → Has T v → Has S v → size S n ≤ suc k → size (minus S T) n ≤ k
    smaller S T inside v k lt t s le =
        let lacks : minus S T v ≡ false = rw t in
        let less = size_less (minus S T) S (λ x h. (minus_in S T x h).0) v lacks s n lt in
        omega (arith, less)

    step : (k : ℕ) → ((S : ℕ → Bool) → Subgame n Edge owner S → size S n ≤ k → Solved S)
        → (S : ℕ → Bool) → Subgame n Edge owner S → size S n ≤ suc k
        → (v : ℕ) → IsTop priority S n v → (i : Player) → HasParityOf i (priority v) → Solved S
    step k solve S sub le v top i parity = elim (search_below (Has W) (Lacks W) (λ x. cases_Bool (W x)) n) [
      | inl f ↦
          let b = attract n Edge owner find S W j sub (λ x h. (minus_in S a.0.set x (of_W x h).0).0) in
          part_won find S sub i U a.0 a.1 less W of_W in_W b.0 b.1
          (solve (minus S b.0.set) (rest_goes_on n Edge owner find S W j sub b.0 b.1)
          (smaller S b.0.set b.0.inside f.0 k f.1 (b.0.base f.0 f.2) (b.0.inside f.0 (b.0.base f.0 f.2)) le))
      | inr none ↦ all_won find S sub i (priority v) parity (λ x h. top.greatest x (sub.below x h) h) U target a.0 less
          (λ x h. elim (player_cases (less.winner x) i) [
            | inl e ↦ e
            | inr e ↦ absurd (clash (W x) (in_W x h e) (none x (sub.below x (minus_in S a.0.set x h).0)))
          ])
    ]
      where
        j : Player
        j = opponent i

        U : ℕ → Bool
        U x = cond (S x) (eqb (priority x) (priority v)) false

        target : (x : ℕ) → Has U x → Has S x × (priority x ≡ priority v)
        target x h = elim (cases_Bool (S x)) [
          | inl t ↦ (t, eqb-true (priority x) (priority v) (rw t at h))
          | inr f ↦ absurd (let c : false ≡ true = rw f at h in cc)
        ]

        a : (b : Attraction n Edge owner S U i) × IsMaximal n Edge owner find S U i b
        a = attract n Edge owner find S U i sub (λ x h. (target x h).0)

        hit : Has a.0.set v
        hit = a.0.base v (let t : S v ≡ true = top.has in let e = eq-eqb (priority v) (priority v) refl in rw (t, e))

        less : Solved (minus S a.0.set)
        less = solve (minus S a.0.set) (rest_goes_on n Edge owner find S U i sub a.0 a.1)
            (smaller S a.0.set a.0.inside v k top.below hit top.has le)

        W : ℕ → Bool
        W x = cond (minus S a.0.set x) (is (less.winner x) j) false

        of_W : (x : ℕ) → Has W x → Has (minus S a.0.set) x × (less.winner x ≡ opponent i)
        of_W x h = elim (cases_Bool (minus S a.0.set x)) [
          | inl t ↦ (t, is_same (less.winner x) j (rw t at h))
          | inr f ↦ absurd (let c : false ≡ true = rw f at h in cc)
        ]

        in_W : (x : ℕ) → Has (minus S a.0.set) x → less.winner x ≡ opponent i → Has W x
        in_W x h e = let s = same_is (less.winner x) j e in rw (h, s)

    parity_owner : (p : ℕ) → (i : Player) × HasParityOf i p
    parity_owner p = elim (parity_of p) [ inl even ↦ (Even, even) | inr odd ↦ (Odd, odd) ]

    pub solve : (k : ℕ) (S : ℕ → Bool) → Subgame n Edge owner S → size S n ≤ k → Solved S
    solve zero S sub le = elim (top_below priority S n) [
      | inl t ↦
          let less = size_less (λ x. false) S (λ x h. absurd (clash false h refl)) t.0 refl t.1.has n t.1.below in
          absurd (omega (arith, less))
      | inr none ↦ nothing S sub none
    ]
    solve (suc k) S sub le = elim (top_below priority S n) [
      | inl t ↦ let i = parity_owner (priority t.0) in step k (solve k) S sub le t.0 t.1 i.0 i.1
      | inr none ↦ nothing S sub none
    ]
