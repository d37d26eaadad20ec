-- The solution of the whole game as a list of answers: it is a solution, and safe.
use Rattle.pg_check_determined.proofs.Common.{◌≡◌, ℕ, zero, suc, ◌<◌, ◌≤◌, ◌⊎◌, inl, inr, Bool, List, [], ◌∷◌, ◌++◌, Some, length, map, get_or}
use Rattle.pg_check_determined.proofs.Common.{arith, sym, subst, refl, ap, ◌∙◌, range_with_len, All, Contains, ltb, ltb-true, lt-ltb, All-head}
use Rattle.pg_check_determined.proofs.Common.{All-tail, Contains-get_or, length-map-range_with_len, get_or-map-range_with_len, GameVertex, IsGame}
use Rattle.pg_check_determined.proofs.Common.{IsEdge, IsPath, HasParityOf, opponent, owner, priority, successors, Answer, unanswered, winner}
use Rattle.pg_check_determined.proofs.Common.{choice, IsSolution, Counts, NoneLeaves, IsSafe, edge_from, IsBadCycleFrom, sound_from_no_cycle}
use Rattle.pg_check_determined.proofs.Common.{safe_from_sound, not_both}
use Rattle.pg_check_determined.proofs.Sets.{size}
use Rattle.pg_check_determined.proofs.Walks.{starts}
use Rattle.pg_check_determined.proofs.Attractors.{Subgame}
use Rattle.pg_check_determined.proofs.Solving.{Solved, Goes, GoesUpTo, solve}

find_in : (P Q : ℕ → Type 0) → ((w : ℕ) → P w ⊎ Q w) → (xs : List ℕ)
    → ((w : ℕ) × Contains xs w × P w) ⊎ ((w : ℕ) → Contains xs w → Q w)
find_in P Q decide [] = inr (λ w c. let lt : c.0 < 0 = c.1 in absurd (omega arith))
find_in P Q decide (x ∷ xs) = go (decide x) (find_in P Q decide xs)
  where
    among : Q x → ((w : ℕ) → Contains xs w → Q w) → (w k : ℕ) → k < length (x ∷ xs) → get_or (x ∷ xs) k w ≡ w → Q w
    among q none w zero lt e = subst Q e q
    among q none w (suc k) lt e = none w (k, omega arith, e)

    go : P x ⊎ Q x → ((w : ℕ) × Contains xs w × P w) ⊎ ((w : ℕ) → Contains xs w → Q w)
        → ((w : ℕ) × Contains (x ∷ xs) w × P w) ⊎ ((w : ℕ) → Contains (x ∷ xs) w → Q w)
    go (inl p) r = inl (x, (0, omega arith, refl), p)
    go (inr q) (inl f) = inl (f.0, (suc f.1.0, let lt : f.1.0 < length xs = f.1.1 in omega arith, f.1.2), f.2)
    go (inr q) (inr none) = inr (λ w c. among q none w c.0 c.1 c.2)

some_equal : (x y : ℕ) → Some x ≡ Some y → x ≡ y
some_equal x y e = cc

module _ (game : List GameVertex) (is_game : IsGame game) where
  whole : ℕ → Bool
  whole v = ltb v (length game)

  sub : Subgame (length game) (IsEdge game) (owner game) whole
  unfolding whole
  sub = record {
    below = λ v h. ltb-true v (length game) h;
    goes_on = λ v h.
        let edge = Contains-get_or (successors game v) 0 0 (is_game.goes_on v (ltb-true v (length game) h)) in
        let w = get_or (successors game v) 0 0 in
        (w, edge, lt-ltb w (length game) (is_game.in_range v w edge));
  }

  solved : Solved (length game) (IsEdge game) (owner game) (priority game) whole
  solved = solve (length game) (IsEdge game) (owner game) (priority game)
      (λ P Q decide v. find_in P Q decide (successors game v)) (size whole (length game)) whole sub (omega arith)

  answer : ℕ → Answer
  answer v = record { winner = solved.winner v; choice = Some (solved.choice v) }

  pub solution : List Answer
  solution = map answer (range_with_len 0 (length game))

  winner_is : (v : ℕ) → v < length game → winner solution v ≡ solved.winner v
  unfolding solution answer
  winner_is v lt = ap (λ a. Answer.winner a) (get_or-map-range_with_len answer 0 (length game) v v unanswered lt (omega arith))

  choice_is : (v : ℕ) → v < length game → choice solution v ≡ Some (solved.choice v)
  unfolding solution answer
  choice_is v lt = ap (λ a. Answer.choice a) (get_or-map-range_with_len answer 0 (length game) v v unanswered lt (omega arith))

  pub is_solution : IsSolution game solution
  unfolding solution whole
  is_solution = record {
    whole = length-map-range_with_len answer 0 (length game);
    chosen = λ v lt e.
        (solved.choice v, choice_is v lt, (solved.chooses v (lt-ltb v (length game) lt) (e ∙ winner_is v lt)).0);
  }

  goes : (x y : ℕ) → Counts game solution x y
      → Goes (length game) (IsEdge game) (owner game) (priority game) whole solved.winner solved.choice x y
  unfolding whole
  goes x y c = record {
    from = lt-ltb x (length game) lt;
    to = lt-ltb y (length game) (is_game.in_range x y c.0);
    edge = c.0;
    chosen = λ e. elim c.1 [
      | inl o ↦ absurd (not_both (owner game x) (winner solution x) (e ∙ sym (winner_is x lt)) o)
      | inr k ↦ some_equal y (solved.choice x) (sym k ∙ choice_is x lt)
    ];
  }
    where
      lt : x < length game
      lt = edge_from game x y c.0

  none_leaves : NoneLeaves game solution
  none_leaves v w c =
      winner_is w (is_game.in_range v w c.0) ∙ solved.keeps v w (goes v w c) ∙ sym (winner_is v (edge_from game v w c.0))

  up_to : (q x : ℕ) (rest : List ℕ) (v : ℕ) → IsPath (Counts game solution) x (rest ++ v ∷ [])
      → priority game x ≤ q → All (λ y. priority game y ≤ q) rest → priority game v ≤ q
      → IsPath (GoesUpTo (length game) (IsEdge game) (owner game) (priority game) q whole solved.winner solved.choice) x (rest ++ v ∷ [])
  up_to q x [] v path le all end = (record { goes = goes x v path.0; from_low = le; to_low = end }, tt)
  up_to q x (y ∷ rest) v path le all end =
      let here = All-head (λ y. priority game y ≤ q) y rest all in (
        record { goes = goes x y path.0; from_low = le; to_low = here },
        up_to q y rest v path.1 here (All-tail (λ y. priority game y ≤ q) y rest all) end,
      )

  no_cycle : (v : ℕ) (rest : List ℕ) → ¬ IsBadCycleFrom game solution v rest
  no_cycle v rest r =
      let first = (starts (Counts game solution) v rest v r.closes).1 in
      solved.no_cycle v rest
      (subst (λ w. HasParityOf (opponent w) (priority game v))
      (winner_is v (edge_from game v (starts (Counts game solution) v rest v r.closes).0 first.0)) r.lost)
      (up_to (priority game v) v rest v r.closes (omega arith) r.greatest (omega arith))

  pub is_safe : IsSafe game solution
  is_safe = safe_from_sound game solution (sound_from_no_cycle game solution is_game none_leaves no_cycle)
