-- A search by breadth from a vertex: what is reached, and why no cycle from that vertex escapes it.
use Rattle.pg_check.proofs.Common.{◌≡◌, ◌≢◌, ◌↔◌, ℕ, ◌+◌, ◌<◌, ◌≤◌, inl, inr, Bool, true, false, List, [], ◌∷◌, ◌++◌, length, get_or, set}
use Rattle.pg_check.proofs.Common.{replicate, arith, sym, subst, refl, ◌∙◌, All, Contains, cases_lt, cases_eq, eqb-true, Decides-eqb}
use Rattle.pg_check.proofs.Common.{get_or_default, get_or_past, get_or_append_left, get_or_push, length-append, get_or-replicate}
use Rattle.pg_check.proofs.Common.{length-replicate, All-nil, All-head, All-tail, All-cons, All-push, All-weaker, All-contains}
use Rattle.pg_check.proofs.Common.{Contains-append_left, Contains-push, all_pairs_push, IsDistinct-from_AllPairs}
use Rattle.pg_check.proofs.Common.{length-le_from_distinct_below, Contains-from_any, GameVertex, IsPath, priority, Answer, Counts}
use Rattle.pg_check.proofs.Common.{HasNoCycle, IsTrail, IsSearched, IsTaken, AreTaken, IsExplored, all_passed}
use Rattle.std.proofs.lemmas.List.{get_or-set_same, get_or-set_other}
use Rattle.std.proofs.lemmas.List.{length-set}

-- what holds of each item before and of this one
here_too : (P : ℕ → Type 0) (items : List ℕ) (index w : ℕ) → index < length items → w ≡ get_or items index w
    → ((k d : ℕ) → k < index → P (get_or items k d)) → P w → (k d : ℕ) → k < index + 1 → P (get_or items k d)
here_too P items index w inside is before now k d below = elim (cases_lt k index) [
  | inl lt ↦ before k d lt
  | inr le ↦
      let last : k ≡ index = omega arith in
      subst (λ i. P (get_or items i d)) (sym last) (subst P (is ∙ get_or_default items index w d inside) now)
]

pub search_begins : (game : List GameVertex) (solution : List Answer) (v : ℕ) → v < length game
    → IsSearched game solution v (v ∷ []) (0 ∷ []) (set (replicate (length game) false) v true)
search_begins game solution v lt = record {
  first = refl;
  some = omega arith;
  as_long = refl;
  whole = length-set (replicate (length game) false) v true ∙ length-replicate (length game) false;
  distinct = λ i j d before inside. absurd (omega arith);
  within = All-cons (λ w. w < length game) v [] lt (All-nil (λ w. w < length game));
  greatest = All-cons (λ w. priority game w ≤ priority game v) v [] (omega arith) (All-nil (λ w. priority game w ≤ priority game v));
  flagged = All-cons (λ w. get_or flags w false ≡ true) v [] here (All-nil (λ w. get_or flags w false ≡ true));
  has_flagged = λ w e. elim (cases_eq w v) [
    | inl same ↦ (0, omega arith, sym same)
    | inr other ↦ absurd (unset w other e)
  ];
  steps = λ k positive inside. absurd (omega arith);
}
  where
    flags : List Bool
    flags = set (replicate (length game) false) v true

    here : get_or flags v false ≡ true
    here = get_or-set_same (replicate (length game) false) v true false (let e = length-replicate (length game) false in omega arith)

    unset : (w : ℕ) → w ≢ v → get_or flags w false ≡ true → ⊥
    unset w other e = elim (cases_lt w (length game)) [
      | inl below ↦
          let same = get_or-set_other (replicate (length game) false) v w true false other in
          let empty = get_or-replicate (length game) w false false below in
          cc
      | inr past ↦
          let same = get_or-set_other (replicate (length game) false) v w true false other in
          let empty = get_or_past (replicate (length game) false) w false (let e = length-replicate (length game) false in omega arith) in
          cc
    ]

-- one more vertex, that wasn't reached, by an edge that counts from the one at a place
pub search_reaches : (game : List GameVertex) (solution : List Answer) (v : ℕ) (reached before : List ℕ) (flags : List Bool) (at w : ℕ)
    → IsSearched game solution v reached before flags → at < length reached → Counts game solution (get_or reached at 0) w
    → get_or flags w false ≡ false → priority game w ≤ priority game v → w < length game
    → IsSearched game solution v (reached ++ w ∷ []) (before ++ at ∷ []) (set flags w true)
search_reaches game solution v reached before flags at w s here counts unset low below = record {
  first = get_or_append_left reached (w ∷ []) 0 0 s.some ∙ s.first;
  some = let e = length-append reached (w ∷ []) in omega arith;
  as_long = let e = length-append reached (w ∷ []) in let f = length-append before (at ∷ []) in let g = s.as_long in omega arith;
  whole = length-set flags w true ∙ s.whole;
  distinct = all_pairs_push (λ x y. x ≢ y) reached w s.distinct
      (λ k d lt e. absent (k, lt, get_or_default reached k w d lt ∙ e));
  within = All-push (λ x. x < length game) reached w s.within below;
  greatest = All-push (λ x. priority game x ≤ priority game v) reached w s.greatest low;
  flagged = All-push (λ x. get_or (set flags w true) x false ≡ true) reached w
      (All-weaker (λ x. get_or flags x false ≡ true) (λ x. get_or (set flags w true) x false ≡ true) still reached s.flagged) set_here;
  has_flagged = λ x e. elim (cases_eq x w) [
    | inl same ↦ subst (Contains (reached ++ w ∷ [])) (sym same) (Contains-push reached w)
    | inr other ↦ Contains-append_left reached (w ∷ []) x (s.has_flagged x (sym (get_or-set_other flags w x true false other) ∙ e))
  ];
  steps = λ k positive inside. elim (cases_lt k (length reached)) [
    | inl earlier ↦
        let step = s.steps k positive earlier in
        let e = get_or_append_left before (at ∷ []) 0 k (let f = s.as_long in omega arith) in
        let f = get_or_append_left reached (w ∷ []) 0 (get_or before k 0) (let lt : get_or before k 0 < k = step.0 in omega arith) in
        let g = get_or_append_left reached (w ∷ []) 0 k earlier in
        rw (e, f, g) step
    | inr last ↦
        let at_last : length reached ≡ k = let h = length-append reached (w ∷ []) in omega arith in
        let e = get_or_push before at 0 k (s.as_long ∙ at_last) in
        let f = get_or_append_left reached (w ∷ []) 0 at here in
        let g = get_or_push reached w 0 k at_last in
        rw (e, f, g) (omega arith, counts)
  ];
}
  where
    absent : ¬ Contains reached w
    absent c = let e = All-contains (λ x. get_or flags x false ≡ true) reached w s.flagged c in cc

    set_here : get_or (set flags w true) w false ≡ true
    set_here = get_or-set_same flags w true false (let e = s.whole in omega arith)

    still : (x : ℕ) → get_or flags x false ≡ true → get_or (set flags w true) x false ≡ true
    still x e = elim (cases_eq x w) [
      | inl same ↦ subst (λ y. get_or (set flags w true) y false ≡ true) (sym same) set_here
      | inr other ↦ get_or-set_other flags w x true false other ∙ e
    ]

-- it reaches no more vertices than there are
pub search_ends : (game : List GameVertex) (solution : List Answer) (v : ℕ) (reached before : List ℕ) (flags : List Bool)
    → IsSearched game solution v reached before flags → length reached ≤ length game
search_ends game solution v reached before flags s =
    length-le_from_distinct_below reached (length game) (IsDistinct-from_AllPairs Decides-eqb reached s.distinct)
    (λ q e. All-contains (λ x. x < length game) reached q s.within (Contains-from_any eqb-true q reached e))

pub trail_of : (game : List GameVertex) (solution : List Answer) (v : ℕ) (reached before : List ℕ) (flags : List Bool) (at : ℕ)
    → IsSearched game solution v reached before flags → at < length reached → Counts game solution (get_or reached at 0) v
    → IsTrail game solution v reached before at
trail_of game solution v reached before flags at s here counts = record {
  first = s.first;
  inside = here;
  as_long = s.as_long;
  distinct = s.distinct;
  greatest = s.greatest;
  steps = s.steps;
  closes = counts;
}

pub taken_more : (game : List GameVertex) (v : ℕ) (reached : List ℕ) (x w : ℕ) → IsTaken game v reached w → IsTaken game v (reached ++ x ∷ []) w
taken_more game v reached x w t = (t.0, λ low. Contains-append_left reached (x ∷ []) w (t.1 low))

pub taken_still : (game : List GameVertex) (solution : List Answer) (v : ℕ) (reached : List ℕ) (at x : ℕ) → at ≤ length reached
    → AreTaken game solution v reached at → AreTaken game solution v (reached ++ x ∷ []) at
taken_still game solution v reached at x upto taken k w lt inside counts =
    let here : k < length reached = omega arith in
    taken_more game v reached x w (taken k w lt here
    (subst (λ u. Counts game solution u w) (get_or_append_left reached (x ∷ []) 0 k here) counts))

-- a search begins with v reached and no edge taken
pub explored_begins : (game : List GameVertex) (solution : List Answer) (v count : ℕ) (reached before : List ℕ) (flags : List Bool)
    → v < length game → count ≡ length game → reached ≡ v ∷ [] → before ≡ 0 ∷ [] → flags ≡ set (replicate count false) v true
    → IsExplored game solution v reached before flags 0
explored_begins game solution v count reached before flags lt all e f g =
    rw (e, f, g, all) (record {
      searched = search_begins game solution v lt;
      upto = omega arith;
      taken = λ k w below. absurd (omega arith);
    })

-- a search that took every edge finds that v has no cycle
pub no_cycle : (game : List GameVertex) (solution : List Answer) (v : ℕ) (reached before : List ℕ) (flags : List Bool) (at : ℕ)
    → IsSearched game solution v reached before flags → length reached ≤ at → AreTaken game solution v reached at → HasNoCycle game solution v
no_cycle game solution v reached before flags at s done taken rest r =
    go v rest (0, s.some, get_or_default reached 0 v 0 s.some ∙ s.first) r.closes r.greatest
  where
    takes : (u w : ℕ) → Contains reached u → Counts game solution u w → IsTaken game v reached w
    takes u w (k, lt, e) counts =
        taken k w (omega arith) lt
        (subst (λ x. Counts game solution x w) (sym (sym (get_or_default reached k u 0 lt) ∙ e)) counts)

    go : (u : ℕ) (rest : List ℕ) → Contains reached u → IsPath (Counts game solution) u (rest ++ v ∷ [])
        → All (λ w. priority game w ≤ priority game v) rest → ⊥
    go u [] found h low = (takes u v found h.0).0 refl
    go u (w ∷ rest) found h low =
        go w rest ((takes u w found h.0).1 (All-head (λ x. priority game x ≤ priority game v) w rest low)) h.1
        (All-tail (λ x. priority game x ≤ priority game v) w rest low)

-- the edge that a loop over the counted edges of the vertex at a place stands at
pub edge_here : (game : List GameVertex) (solution : List Answer) (reached begun items : List ℕ) (at u k w : ℕ)
    → get_or reached at 0 ≡ get_or begun at 0 → at < length begun → u ≡ get_or begun at u
    → ((x : ℕ) → Contains items x ↔ Counts game solution u x) → k < length items → w ≡ get_or items k w
    → Counts game solution (get_or reached at 0) w
edge_here game solution reached begun items at u k w same lt read counted inside is =
    let place : get_or reached at 0 ≡ u = same ∙ (get_or_default begun at 0 u lt ∙ sym read) in
    subst (λ x. Counts game solution x w) (sym place) ((counted w).0 (k, inside, sym is))

-- all edges of the vertex at a place are taken, and so are those of the places before
pub taken_next : (game : List GameVertex) (solution : List Answer) (v : ℕ) (reached begun items : List ℕ) (at u k : ℕ)
    → get_or reached at 0 ≡ get_or begun at 0 → at < length begun → u ≡ get_or begun at u
    → ((x : ℕ) → Contains items x ↔ Counts game solution u x) → length items ≤ k
    → ((j d : ℕ) → j < k → IsTaken game v reached (get_or items j d))
    → AreTaken game solution v reached at → AreTaken game solution v reached (at + 1)
taken_next game solution v reached begun items at u k same lt read counted done here taken j w below inside counts = elim (cases_lt j at) [
  | inl before ↦ taken j w before inside counts
  | inr past ↦
      let place : get_or reached at 0 ≡ u = same ∙ (get_or_default begun at 0 u lt ∙ sym read) in
      let is_at : j ≡ at = omega arith in
      let counts' : Counts game solution u w =
      subst (λ x. Counts game solution x w) place (subst (λ i. Counts game solution (get_or reached i 0) w) is_at counts) in
      all_passed (λ x. IsTaken game v reached x) items k w done here ((counted w).1 counts')
]

-- a search in the midst of the edges of the vertex at a place: `begun` had been reached before, and `index` edges are taken
pub record IsExploring (game : List GameVertex) (solution : List Answer) (v : ℕ) (reached before : List ℕ) (flags : List Bool)
    (begun items : List ℕ) (at index : ℕ) : Type 0 where
  pub searched : IsSearched game solution v reached before flags
  pub here : at < length reached
  pub same : get_or reached at 0 ≡ get_or begun at 0
  pub taken : AreTaken game solution v reached at
  pub taken_here : (k d : ℕ) → k < index → IsTaken game v reached (get_or items k d)

pub exploring_passes : (game : List GameVertex) (solution : List Answer) (v : ℕ) (reached before : List ℕ) (flags : List Bool)
    (begun items : List ℕ) (at index w : ℕ) → IsExploring game solution v reached before flags begun items at index
    → index < length items → w ≡ get_or items index w → w ≢ v
    → (priority game w ≤ priority game v → get_or flags w false ≡ true)
    → IsExploring game solution v reached before flags begun items at (index + 1)
exploring_passes game solution v reached before flags begun items at index w i inside is other known = record {
  searched = i.searched;
  here = i.here;
  same = i.same;
  taken = i.taken;
  taken_here = here_too (IsTaken game v reached) items index w inside is i.taken_here (other, λ low. i.searched.has_flagged w (known low));
}

pub exploring_reaches : (game : List GameVertex) (solution : List Answer) (v : ℕ) (reached before : List ℕ) (flags : List Bool)
    (begun items : List ℕ) (at index w : ℕ) → IsExploring game solution v reached before flags begun items at index
    → index < length items → w ≡ get_or items index w → w ≢ v
    → Counts game solution (get_or reached at 0) w → get_or flags w false ≡ false → priority game w ≤ priority game v → w < length game
    → IsExploring game solution v (reached ++ w ∷ []) (before ++ at ∷ []) (set flags w true) begun items at (index + 1)
exploring_reaches game solution v reached before flags begun items at index w i inside is other counts unset low below = record {
  searched = search_reaches game solution v reached before flags at w i.searched i.here counts unset low below;
  here = let e = length-append reached (w ∷ []) in let lt : at < length reached = i.here in omega arith;
  same = get_or_append_left reached (w ∷ []) 0 at i.here ∙ i.same;
  taken = taken_still game solution v reached at w (let lt : at < length reached = i.here in omega arith) i.taken;
  taken_here = here_too (IsTaken game v (reached ++ w ∷ [])) items index w inside is
      (λ k d lt. taken_more game v reached w (get_or items k d) (i.taken_here k d lt)) (other, λ _. Contains-push reached w);
}
