-- A solution by which each winner wins is sound.
use Rattle.pg_check.proofs.Common.{◌≡◌, ℕ, zero, suc, ◌<◌, ◌≤◌, inl, inr, List, [], ◌∷◌, ◌++◌, length, map, get_or, arith, sym, subst, refl}
use Rattle.pg_check.proofs.Common.{ap, ◌∙◌, add-one, All, All-head, All-tail, Contains-get_or, length-map, get_or-map, GameVertex, IsGame}
use Rattle.pg_check.proofs.Common.{IsPath, priority, owner, successors, Answer, winner, IsSolution, IsPlay, Loses, Counts, IsBadCycle}
use Rattle.pg_check.proofs.Common.{NoneLeaves, Wins, SoundIffWins, all_unmap}
use Rattle.pg_check.proofs.Cycles.{edge_from, sound_from_safe}
use Rattle.pg_check.proofs.Wins.{wins, player_cases}

-- along a cycle for ever

module _ (Step : ℕ → ℕ → Type 0) (v : ℕ) (rest : List ℕ) (closes : IsPath Step v (rest ++ v ∷ [])) where
  -- the vertex after t steps from x, where `ys` is still to come before v
  place : ℕ → List ℕ → ℕ → ℕ
  place x ys zero = x
  place x [] (suc t) = place v rest t
  place x (y ∷ ys) (suc t) = place y ys t

  goes : (x : ℕ) (ys : List ℕ) → IsPath Step x (ys ++ v ∷ []) → (t : ℕ) → Step (place x ys t) (place x ys (suc t))
  unfolding place
  goes x [] h zero = h.0
  goes x (y ∷ ys) h zero = h.0
  goes x [] h (suc t) = goes v rest closes t
  goes x (y ∷ ys) h (suc t) = goes y ys h.1 t

  pub cycled : ℕ → ℕ
  cycled t = place v rest t

  pub starts_at : cycled 0 ≡ v
  unfolding cycled place
  starts_at = refl

  pub is_play : IsPlay Step cycled
  unfolding cycled
  is_play t = subst (λ s. Step (place v rest t) (place v rest s)) (sym (add-one t)) (goes v rest closes t)

  home : (x : ℕ) (ys : List ℕ) (k : ℕ) → (s : ℕ) × (place x ys s ≡ place v rest k)
  unfolding place
  home x [] k = (suc k, refl)
  home x (y ∷ ys) k = let r = home y ys k in (suc r.0, r.1)

  -- the k-th vertex of the cycle is met again after any step
  again : (x : ℕ) (ys : List ℕ) (t k : ℕ) → (s : ℕ) × (t ≤ s) × (place x ys s ≡ place v rest k)
  unfolding place
  again x ys zero k = let r = home x ys k in (r.0, omega arith, r.1)
  again x [] (suc t) k = let r = again v rest t k in let le : t ≤ r.0 = r.1 in (suc r.0, omega arith, r.2)
  again x (y ∷ ys) (suc t) k = let r = again y ys t k in let le : t ≤ r.0 = r.1 in (suc r.0, omega arith, r.2)

  visits : (x : ℕ) (ys : List ℕ) (k d : ℕ) → k < length (x ∷ ys) → place x ys k ≡ get_or (x ∷ ys) k d
  unfolding place
  visits x ys zero d lt = refl
  visits x [] (suc k) d lt = absurd (omega arith)
  visits x (y ∷ ys) (suc k) d lt = visits y ys k d (omega arith)

  stays_in : (P : ℕ → Type 0) → All P (v ∷ rest) → (x : ℕ) (ys : List ℕ) → All P (x ∷ ys) → (t : ℕ) → P (place x ys t)
  unfolding place
  stays_in P all x ys h zero = All-head P x ys h
  stays_in P all x [] h (suc t) = stays_in P all v rest all t
  stays_in P all x (y ∷ ys) h (suc t) = stays_in P all y ys (All-tail P x (y ∷ ys) h) t

  pub met_again : (k d t : ℕ) → k < length (v ∷ rest) → (s : ℕ) × (t ≤ s) × (cycled s ≡ get_or (v ∷ rest) k d)
  unfolding cycled
  met_again k d t lt = let r = again v rest t k in (r.0, r.1, r.2 ∙ visits v rest k d lt)

  pub all_along : (P : ℕ → Type 0) → All P (v ∷ rest) → (t : ℕ) → P (cycled t)
  unfolding cycled
  all_along P all t = stays_in P all v rest all t

module _ (game : List GameVertex) (solution : List Answer) (is_game : IsGame game) (is_solution : IsSolution game solution)
    (won : (v : ℕ) → v < length game → Wins game solution v) where
  -- an edge that counts leaves each vertex
  next : (v : ℕ) → v < length game → (w : ℕ) × Counts game solution v w
  next v lt = elim (player_cases (owner game v) (winner solution v)) [
    | inl e ↦ (let c = is_solution.chosen v lt e in (c.0, (c.2, inr c.1)))
    | inr e ↦ (get_or (successors game v) 0 0, (Contains-get_or (successors game v) 0 0 (is_game.goes_on v lt), inl e))
  ]

  trace : (v : ℕ) → v < length game → ℕ → (u : ℕ) × (u < length game)
  trace v lt zero = (v, lt)
  trace v lt (suc t) = let n = next (trace v lt t).0 (trace v lt t).1 in (n.0, is_game.in_range (trace v lt t).0 n.0 n.1.0)

  -- from v to w, and then on
  from : (v w : ℕ) → w < length game → ℕ → ℕ
  from v w lt zero = v
  from v w lt (suc t) = (trace w lt t).0

  follows : (v w : ℕ) (lt : w < length game) → Counts game solution v w → IsPlay (Counts game solution) (from v w lt)
  unfolding from trace
  follows v w lt counts t = subst (λ s. Counts game solution (from v w lt t) (from v w lt s)) (sym (add-one t)) (step t)
    where
      step : (t : ℕ) → Counts game solution (from v w lt t) (from v w lt (suc t))
      step zero = counts
      step (suc t) = (next (trace w lt t).0 (trace w lt t).1).1

  none_leaves : NoneLeaves game solution
  unfolding from trace
  none_leaves v w counts =
      let lt = is_game.in_range v w counts.0 in
      (won v (edge_from game v w counts.0) (from v w lt) refl (follows v w lt counts)).0 1

  starts : (v : ℕ) (rest : List ℕ) → IsPath (Counts game solution) v (rest ++ v ∷ []) → v < length game
  starts v [] h = edge_from game v v h.0.0
  starts v (w ∷ rest) h = edge_from game v w h.0.0

  no_bad_cycle : (v : ℕ) (rest : List ℕ) → ¬ IsBadCycle game solution v rest
  no_bad_cycle v rest bad =
      let Step = Counts game solution in
      let p = bad.lost.0 in
      let g = bad.lost.1 in
      let k = g.occurs.0 in
      let play = cycled Step v rest bad.closes in
      let inside : k < length (v ∷ rest) = let lt : k < length (map (priority game) (v ∷ rest)) = g.occurs.1 in
      omega (arith, length-map (v ∷ rest) (priority game)) in
      let is_p : priority game (get_or (v ∷ rest) k 0) ≡ p = sym (get_or-map (priority game) (v ∷ rest) k 0 p inside) ∙ g.occurs.2 in
      let lost : Loses (winner solution v) (λ t. priority game (play t)) = (
        p,
        record {
          recurs = λ (t, absent). let r = met_again Step v rest bad.closes k 0 t inside in absent r.0 r.1 (ap (priority game) r.2 ∙ is_p);
          bounds = (
            0,
            λ s le. all_along Step v rest bad.closes (λ x. priority game x ≤ p)
                (all_unmap (priority game) (λ q. q ≤ p) (v ∷ rest) g.above_all) s,
          );
        },
        bad.lost.2,
      ) in
      (won v (starts v rest bad.closes) play (starts_at Step v rest bad.closes) (is_play Step v rest bad.closes)).1 lost

pub sound_iff_wins : SoundIffWins
sound_iff_wins game solution is_game is_solution = (
  λ sound v lt. wins game solution is_game sound v,
  λ won. sound_from_safe game solution is_game (record {
    none_leaves = none_leaves game solution is_game is_solution won;
    no_bad_cycle = no_bad_cycle game solution is_game is_solution won;
  }),
)
