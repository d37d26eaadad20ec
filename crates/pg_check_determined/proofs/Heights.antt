-- Where Even wins by a safe solution, some closed map has a list: at each odd priority p the most vertices of priority
-- p that a path meets on which nothing has a greater priority.
use Rattle.pg_check_determined.proofs.Common.{◌≡◌, ℕ, zero, suc, ◌%◌, ◌<◌, ◌≤◌, ◌⊎◌, inl, inr, Bool, true, false, eqb, List, [], ◌∷◌, Some, None}
use Rattle.pg_check_determined.proofs.Common.{length, take, get_or, arith, sym, subst, refl, ap, ◌∙◌, MatchBool, IsDistinct, filter, All}
use Rattle.pg_check_determined.proofs.Common.{AllPairs, Any, IsSome, eqb-true, eq-eqb, cases_lt, get_or_default, All-nil, All-cons, All-head}
use Rattle.pg_check_determined.proofs.Common.{All-tail, All-filter, filter_passes, length-filter, Player, Even, Odd, GameVertex, IsGame, IsPath}
use Rattle.pg_check_determined.proofs.Common.{HasParityOf, opponent, priority, owner, successors, Answer, IsSolution, winner, BoundList}
use Rattle.pg_check_determined.proofs.Common.{MeasureValue, ListFits, Fits, ListBelow, ListAtMost, Covers, width_from, is_odd, vertices_of}
use Rattle.pg_check_determined.proofs.Common.{IsBoundsOf, width_none, width_in, falls_after, Line, game_line, IsMap, IsClosed, SomeOrAll}
use Rattle.pg_check_determined.proofs.Common.{measure_at, game_line_at, game_line_below, path_keeps, repeat_or_distinct, Repeat, Counts, IsSafe}
use Rattle.pg_check_determined.proofs.Common.{meetings, not_not_decided, count-cons, edge_from, cycle_from_repeat, bad_cycle_from, player_cases}
use Rattle.pg_check_determined.proofs.Places.{few_places, some_place}

-- under a double negation, the greatest of numbers up to a bound, and a list of what each number below n has

pub greatest_exists : (P : ℕ → Type 0) (bound : ℕ) → P 0 → ((k : ℕ) → P k → k ≤ bound)
    → ¬ ¬ ((k : ℕ) × P k × ((j : ℕ) → P j → j ≤ k))
greatest_exists P zero start upto none = none (0, start, upto)
greatest_exists P (suc bound) start upto none =
    not_not_decided (P (suc bound)) (elim [
      | inl here ↦ none (suc bound, here, upto)
      | inr not ↦ greatest_exists P bound start (λ k h. below k h (upto k h) not) none
    ])
  where
    below : (k : ℕ) → P k → k ≤ suc bound → ¬ P (suc bound) → k ≤ bound
    below k h le not = elim (cases_lt k (suc bound)) [
      | inl lt ↦ omega arith
      | inr ge ↦ let e : k ≡ suc bound = omega arith in absurd (not (subst P e h))
    ]

pub list_exists : {A : Type 0} (d : A) (Q : ℕ → A → Type 0) (n : ℕ) → ((v : ℕ) → v < n → ¬ ¬ ((m : A) × Q v m))
    → ¬ ¬ ((h : List A) × (length h ≡ n) × ((v : ℕ) → v < n → Q v (get_or h v d)))
list_exists d Q zero each none = none ([], refl, λ v lt. absurd (omega arith))
list_exists d Q (suc n) each none =
    each 0 (omega arith) (λ (m, q).
    list_exists d (λ v. Q (suc v)) n (λ v lt. each (suc v) (omega arith)) (λ (h, size, qs).
    none (m ∷ h, ap suc size, elim [ zero ↦ λ lt. q | suc v ↦ λ lt. qs v (omega arith) ])))

no_width : (b : ℕ × ℕ) (bs : BoundList) (p : ℕ) → AllPairs (λ (b c : ℕ × ℕ). c.0 < b.0) (b ∷ bs) → b.0 < p → width_from (b ∷ bs) p ≡ 0
no_width b bs p f lt =
    width_none (b ∷ bs) p (All-cons (λ (c : ℕ × ℕ). c.0 < p) b bs lt
    (λ k d l. let k : (get_or bs k d).0 < b.0 = f 0 (suc k) d (omega arith) (omega arith) in omega arith))

any_first : (P : ℕ → Type 0) (xs : List ℕ) → 0 < length xs → ((w : ℕ) → P w) → Any P xs
any_first P xs lt h = let w = get_or xs 0 0 in (0, w, lt, get_or_default xs 0 w 0 lt, h w)

module _ (game : List GameVertex) (solution : List Answer) where
  -- a path from v on which nothing is greater than p, and which meets at least k of priority p
  pub record Climbs (p v k : ℕ) : Type 0 where
    pub rest : List ℕ
    pub follows : IsPath (Counts game solution) v rest
    pub under : All (λ u. priority game u ≤ p) (v ∷ rest)
    pub meets : k ≤ meetings game p (v ∷ rest)

  abbrev pub Reaches : ℕ → ℕ → ℕ → Type 0
  Reaches p v k = (k ≡ 0) ⊎ Climbs p v k

  pub record IsHeight (p v k : ℕ) : Type 0 where
    pub reached : Reaches p v k
    pub most : (j : ℕ) → Reaches p v j → j ≤ k

  -- an edge that counts: heights don't rise
  step_at_least : (p v w x y : ℕ) → Counts game solution v w → priority game v ≤ p → IsHeight p v x → IsHeight p w y → y ≤ x
  step_at_least p v w x y c le hv hw = go hw.reached
    where
      go : Reaches p w y → y ≤ x
      go (inl e) = omega arith
      go (inr r) = hv.most y (inr (record {
        rest = w ∷ r.rest;
        follows = (c, r.follows);
        under = All-cons (λ u. priority game u ≤ p) v (w ∷ r.rest) le r.under;
        meets = omega (arith, r.meets, count-cons (λ u. eqb (priority game u) p) v (w ∷ r.rest));
      }))

  -- and they fall at the priority of the vertex
  step_above : (p v w x y : ℕ) → Counts game solution v w → priority game v ≡ p → IsHeight p v x → IsHeight p w y → y < x
  step_above p v w x y c e hv hw = go hw.reached
    where
      one : (rest : List ℕ) → meetings game p (v ∷ rest) ≡ suc (meetings game p rest)
      one rest = rw (count-cons (λ u. eqb (priority game u) p) v rest, eq-eqb (priority game v) p e) (omega arith)

      go : Reaches p w y → y < x
      go (inl z) =
          let le = hv.most 1 (inr (record {
            rest = [];
            follows = tt;
            under = All-cons (λ u. priority game u ≤ p) v [] (omega arith) (All-nil (λ u. priority game u ≤ p));
            meets = omega (arith, one []);
          })) in
          omega arith
      go (inr r) =
          let le = hv.most (suc y) (inr (record {
            rest = w ∷ r.rest;
            follows = (c, r.follows);
            under = All-cons (λ u. priority game u ≤ p) v (w ∷ r.rest) (omega arith) r.under;
            meets = omega (arith, r.meets, one (w ∷ r.rest));
          })) in
          omega arith

  -- a height for each bound
  abbrev pub AreHeights : BoundList → ℕ → List ℕ → Type 0
  AreHeights [] v [] = Unit {0}
  AreHeights [] v (x ∷ xs) = ⊥
  AreHeights (b ∷ bounds) v [] = ⊥
  AreHeights (b ∷ bounds) v (x ∷ xs) = IsHeight b.0 v x × AreHeights bounds v xs

  front_at_most : (bounds : BoundList) (v w : ℕ) (xs ys : List ℕ) → AllPairs (λ (b c : ℕ × ℕ). c.0 < b.0) bounds → Counts game solution v w
      → AreHeights bounds v xs → AreHeights bounds w ys
      → ListAtMost (take (width_from bounds (priority game v)) ys) (take (width_from bounds (priority game v)) xs)
  front_at_most [] v w [] [] f c hv hw = tt
  front_at_most [] v w (x ∷ xs) ys f c hv hw = absurd hv
  front_at_most [] v w [] (y ∷ ys) f c hv hw = absurd hw
  front_at_most (b ∷ bounds) v w [] ys f c hv hw = absurd hv
  front_at_most (b ∷ bounds) v w (x ∷ xs) [] f c hv hw = absurd hw
  front_at_most (b ∷ bounds) v w (x ∷ xs) (y ∷ ys) f c hv hw =
      go (cases_lt b.0 (priority game v)) (front_at_most bounds v w xs ys (falls_after b bounds f) c hv.1 hw.1)
    where
      go : (b.0 < priority game v) ⊎ (priority game v ≤ b.0)
          → ListAtMost (take (width_from bounds (priority game v)) ys) (take (width_from bounds (priority game v)) xs)
          → ListAtMost (take (width_from (b ∷ bounds) (priority game v)) (y ∷ ys)) (take (width_from (b ∷ bounds) (priority game v)) (x ∷ xs))
      go (inl lt) later = rw (no_width b bounds (priority game v) f lt) tt
      go (inr le) later =
          let here = step_at_least b.0 v w x y c le hv.0 hw.0 in
          rw (width_in b bounds (priority game v) le)
          (elim (cases_lt y x) [ inl lt ↦ inl lt | inr ge ↦ inr (omega arith, later) ])

  front_below : (bounds : BoundList) (v w n : ℕ) (xs ys : List ℕ) → AllPairs (λ (b c : ℕ × ℕ). c.0 < b.0) bounds → Counts game solution v w
      → (k : ℕ) → k < length bounds → get_or bounds k (priority game v, n) ≡ (priority game v, n)
      → AreHeights bounds v xs → AreHeights bounds w ys
      → ListBelow (take (width_from bounds (priority game v)) ys) (take (width_from bounds (priority game v)) xs)
  front_below [] v w n xs ys f c k lt e hv hw = absurd (omega arith)
  front_below (b ∷ bounds) v w n [] ys f c k lt e hv hw = absurd hv
  front_below (b ∷ bounds) v w n (x ∷ xs) [] f c k lt e hv hw = absurd hw
  front_below (b ∷ bounds) v w n (x ∷ xs) (y ∷ ys) f c zero lt e hv hw =
      let is_p : b.0 ≡ priority game v = ap (λ (a : ℕ × ℕ). a.0) e in
      rw (width_in b bounds (priority game v) (omega arith)) (inl (step_above b.0 v w x y c (sym is_p) hv.0 hw.0))
  front_below (b ∷ bounds) v w n (x ∷ xs) (y ∷ ys) f c (suc k) lt e hv hw =
      let later = front_below bounds v w n xs ys (falls_after b bounds f) c k (omega arith) e hv.1 hw.1 in
      let above : (get_or bounds k (priority game v, n)).0 < b.0 = f 0 (suc k) (priority game v, n) (omega arith) lt in
      let is_p : (get_or bounds k (priority game v, n)).0 ≡ priority game v = ap (λ (a : ℕ × ℕ). a.0) e in
      let le : priority game v ≤ b.0 = omega arith in
      let here = step_at_least b.0 v w x y c le hv.0 hw.0 in
      rw (width_in b bounds (priority game v) le)
      (elim (cases_lt y x) [ inl lt ↦ inl lt | inr ge ↦ inr (omega arith, later) ])

  covers_step : (bounds : BoundList) → IsBoundsOf game bounds → (v w : ℕ) (xs ys : List ℕ) → Counts game solution v w
      → AreHeights bounds v xs → AreHeights bounds w ys → Covers bounds (priority game v) (Some xs) (Some ys)
  covers_step bounds is_bounds v w xs ys c hv hw = go (is_odd (priority game v)) refl
    where
      go : (t : Bool) → is_odd (priority game v) ≡ t → MatchBool t
          (ListBelow (take (width_from bounds (priority game v)) ys) (take (width_from bounds (priority game v)) xs))
          (ListAtMost (take (width_from bounds (priority game v)) ys) (take (width_from bounds (priority game v)) xs))
      go true e =
          let at = (is_bounds.exact (priority game v) (vertices_of game (priority game v))).1
          (eqb-true (priority game v % 2) 1 e, some_place game v (edge_from game v w c.0), refl) in
          front_below bounds v w (vertices_of game (priority game v)) xs ys is_bounds.falling c at.0 at.1 at.2 hv hw
      go false e = front_at_most bounds v w xs ys is_bounds.falling c hv hw

  -- what the map has at v
  abbrev pub HasMeasure : BoundList → ℕ → MeasureValue → Type 0
  HasMeasure bounds v m =
      ((winner solution v ≡ Even) × ((xs : List ℕ) × (m ≡ Some xs) × AreHeights bounds v xs × ListFits bounds xs))
      ⊎ ((winner solution v ≡ Odd) × (m ≡ None))

  module _ (is_game : IsGame game) (safe : IsSafe game solution) where
    reaches_few : (p v k : ℕ) → p % 2 ≡ 1 → v < length game → winner solution v ≡ Even → Reaches p v k → k ≤ vertices_of game p
    reaches_few p v k odd lt e (inl z) = omega arith
    reaches_few p v k odd lt e (inr r) = go (repeat_or_distinct test path)
      where
        test : ℕ → Bool
        test u = eqb (priority game u) p

        path : List ℕ
        path = v ∷ r.rest

        below : All (λ u. u < length game) path
        below = path_keeps (Counts game solution) (λ u. u < length game) (λ u w h s. is_game.in_range u w s.0) v r.rest r.follows lt

        same : All (λ u. winner solution u ≡ winner solution v) path
        same = path_keeps (Counts game solution) (λ u. winner solution u ≡ winner solution v) (λ u w d s. safe.none_leaves u w s ∙ d) v r.rest r.follows refl

        passes : All (λ u. priority game u ≡ p) (filter test path)
        passes i d l = eqb-true (priority game (get_or (filter test path) i d)) p (filter_passes test path i d l)

        go : Repeat test path ⊎ IsDistinct eqb (filter test path) → k ≤ vertices_of game p
        go (inl again) =
            let cycle = cycle_from_repeat game solution v p path r.follows same r.under
            (subst (λ w. HasParityOf (opponent w) p) (sym e) odd) again in
            absurd (safe.no_bad_cycle again.twice again.between (bad_cycle_from game solution again.twice again.between cycle))
        go (inr distinct) =
            let few = few_places game p (filter test path) distinct (All-filter test (λ u. u < length game) path below) passes in
            omega (arith, few, length-filter test path, r.meets)

    heights_exist : (bounds : BoundList) → All (λ (b : ℕ × ℕ). (b.0 % 2 ≡ 1) × (b.1 ≡ vertices_of game b.0)) bounds
        → (v : ℕ) → v < length game → winner solution v ≡ Even → ¬ ¬ ((xs : List ℕ) × AreHeights bounds v xs × ListFits bounds xs)
    heights_exist [] known v lt e none = none ([], tt, tt)
    heights_exist (b ∷ bounds) known v lt e none =
        let here = All-head (λ (b : ℕ × ℕ). (b.0 % 2 ≡ 1) × (b.1 ≡ vertices_of game b.0)) b bounds known in
        greatest_exists (Reaches b.0 v) (vertices_of game b.0) (inl refl) (λ k r. reaches_few b.0 v k here.0 lt e r) (λ (x, reached, most).
        heights_exist bounds (All-tail (λ (b : ℕ × ℕ). (b.0 % 2 ≡ 1) × (b.1 ≡ vertices_of game b.0)) b bounds known) v lt e (λ (xs, hs, fits).
        none (
          x ∷ xs,
          (record { reached = reached; most = most }, hs),
          ((let few = reaches_few b.0 v x here.0 lt e reached in let n = here.1 in omega arith), fits),
        )))

    measure_exists : (bounds : BoundList) → IsBoundsOf game bounds → (v : ℕ) → v < length game → ¬ ¬ ((m : MeasureValue) × HasMeasure bounds v m)
    measure_exists bounds is_bounds v lt none = go (player_cases (winner solution v) Even)
      where
        known : All (λ (b : ℕ × ℕ). (b.0 % 2 ≡ 1) × (b.1 ≡ vertices_of game b.0)) bounds
        known k d l =
            let b = get_or bounds k d in
            let e = (is_bounds.exact b.0 b.1).0 (k, l, get_or_default bounds k b d l) in (e.0, e.2)

        go : (winner solution v ≡ Even) ⊎ (winner solution v ≡ Odd) → ⊥
        go (inl e) = heights_exist bounds known v lt e (λ (xs, hs, fits). none (Some xs, inl (e, (xs, refl, hs, fits))))
        go (inr e) = none (None, inr (e, refl))

    module _ (is_solution : IsSolution game solution) (bounds : BoundList) (is_bounds : IsBoundsOf game bounds) (h : List MeasureValue)
        (size : length h ≡ length game) (has : (v : ℕ) → v < length game → HasMeasure bounds v (measure_at h v)) where
      fits_of : (v : ℕ) (m : MeasureValue) → HasMeasure bounds v m → Fits bounds m
      fits_of v m (inl (e, (xs, is, hs, fits))) = subst (Fits bounds) (sym is) fits
      fits_of v m (inr (e, is)) = subst (Fits bounds) (sym is) tt

      some_of : (v : ℕ) (m : MeasureValue) → HasMeasure bounds v m → winner solution v ≡ Even → IsSome m
      some_of v m (inl (e, (xs, is, hs, fits))) won = subst IsSome (sym is) refl
      some_of v m (inr (e, is)) won = absurd (cc (e, won))

      covers_of : (v w : ℕ) (m n : MeasureValue) → HasMeasure bounds v m → HasMeasure bounds w n → Counts game solution v w
          → Covers bounds (priority game v) m n
      covers_of v w m n (inr (e, is)) hw c = subst (λ x. Covers bounds (priority game v) x n) (sym is) tt
      covers_of v w m n (inl (e, (xs, is, hs, fits))) (inr (f, is')) c = absurd (let s = safe.none_leaves v w c in cc)
      covers_of v w m n (inl (e, (xs, is, hs, fits))) (inl (f, (ys, is', hs', fits'))) c =
          subst (λ x. Covers bounds (priority game v) x n) (sym is)
          (subst (Covers bounds (priority game v) (Some xs)) (sym is') (covers_step bounds is_bounds v w xs ys c hs hs'))

      covers : (v w : ℕ) → Counts game solution v w → Covers bounds (priority game v) (measure_at h v) (measure_at h w)
      covers v w c = covers_of v w (measure_at h v) (measure_at h w) (has v (edge_from game v w c.0)) (has w (is_game.in_range v w c.0)) c

      top_of : (v : ℕ) (m n : MeasureValue) → HasMeasure bounds v m → winner solution v ≡ Odd → Covers bounds (priority game v) m n
      top_of v m n (inl (e, more)) lost = absurd (cc (e, lost))
      top_of v m n (inr (e, is)) lost = subst (λ x. Covers bounds (priority game v) x n) (sym is) tt

      top_covers : (v w : ℕ) → v < length game → winner solution v ≡ Odd → Covers bounds (priority game v) (measure_at h v) (measure_at h w)
      top_covers v w lt lost = top_of v (measure_at h v) (measure_at h w) (has v lt) lost

      serves : (v : ℕ) (o : Player) → v < length game → owner game v ≡ o → (winner solution v ≡ Even) ⊎ (winner solution v ≡ Odd)
          → SomeOrAll o (λ w. Covers bounds (priority game v) (measure_at h v) (measure_at h w)) (successors game v)
      serves v Even lt own (inl e) =
          let c = is_solution.chosen v lt (own ∙ sym e) in (c.2.0, c.0, c.2.1, c.2.2, covers v c.0 (c.2, inr c.1))
      serves v Odd lt own (inl e) = λ k d l.
          let w = get_or (successors game v) k d in
          covers v w ((k, l, get_or_default (successors game v) k w d l), inl (own ∙ sym (ap opponent e)))
      serves v Even lt own (inr e) = any_first (λ w. Covers bounds (priority game v) (measure_at h v) (measure_at h w)) (successors game v)
          (is_game.goes_on v lt) (λ w. top_covers v w lt e)
      serves v Odd lt own (inr e) = λ k d l. top_covers v (get_or (successors game v) k d) lt e

      closed : IsClosed bounds (game_line game) h
      closed v some =
          let lt = game_line_below game v some in
          subst (λ (l : Line). SomeOrAll l.owner (λ w. Covers bounds l.priority (measure_at h v) (measure_at h w)) l.successors) (sym (game_line_at game v))
          (serves v (owner game v) lt refl (player_cases (winner solution v) Even))

      is_map : IsMap bounds (length game) h
      is_map = record {
        size = size;
        fits = λ v d l.
            (let lt : v < length game = omega arith in
            subst (Fits bounds) (get_or_default h v None d l) (fits_of v (measure_at h v) (has v lt)));
      }

-- a list at each vertex that Even wins
abbrev pub HasListsFor : List GameVertex → List Answer → List MeasureValue → Type 0
HasListsFor game solution h = (v : ℕ) → v < length game → winner solution v ≡ Even → IsSome (measure_at h v)

-- where Even wins by a safe solution, some closed map has lists
pub winners_have_lists : (game : List GameVertex) (solution : List Answer) (bounds : BoundList) → IsGame game
    → IsSolution game solution → IsSafe game solution → IsBoundsOf game bounds
    → ¬ ¬ ((h : List MeasureValue) × IsMap bounds (length game) h × IsClosed bounds (game_line game) h × HasListsFor game solution h)
winners_have_lists game solution bounds is_game is_solution safe is_bounds none =
    list_exists None (HasMeasure game solution bounds) (length game) (measure_exists game solution is_game safe bounds is_bounds) (λ (h, size, has).
    none (
      h,
      is_map game solution is_game safe is_solution bounds is_bounds h size has,
      closed game solution is_game safe is_solution bounds is_bounds h size has,
      λ v lt e. some_of game solution is_game safe is_solution bounds is_bounds h size has v (measure_at h v) (has v lt) e,
    ))
