-- The winners of a safe solution exchanged, it is a safe solution of the dual.
use Rattle.pg_check_determined.proofs.Common.{◌≡◌, ℕ, zero, suc, ◌+◌, ◌<◌, ◌≤◌, inl, inr, List, [], ◌∷◌, ◌++◌, Some, length, map, get_or, arith}
use Rattle.pg_check_determined.proofs.Common.{sym, subst, refl, ap, ◌∙◌, All, Contains, length-map, get_or-map, All-nil, All-cons, All-head}
use Rattle.pg_check_determined.proofs.Common.{All-tail, All-map, Player, Even, Odd, GameVertex, IsGame, IsEdge, IsPath, HasParityOf, opponent}
use Rattle.pg_check_determined.proofs.Common.{priority, owner, dual, length_dual, successors_dual, priority_dual, owner_dual, Answer, unanswered}
use Rattle.pg_check_determined.proofs.Common.{answer_at, winner, loser, choice, IsSolution, Counts, NoneLeaves, IsSafe, IsBadCycle, path_keeps}
use Rattle.pg_check_determined.proofs.Common.{all_front, all_unmap, edge_from, opponent_twice, path_map}

abbrev pub swapped_answer : Answer → Answer
swapped_answer a = record a { winner = opponent a.winner }

-- the winners exchanged, the choices kept
abbrev pub swapped : List Answer → List Answer
swapped solution = map swapped_answer solution

answer_swapped : (solution : List Answer) (v : ℕ) → v < length solution → answer_at (swapped solution) v ≡ swapped_answer (answer_at solution v)
answer_swapped solution v lt = get_or-map swapped_answer solution v unanswered unanswered lt

pub winner_swapped : (solution : List Answer) (v : ℕ) → v < length solution → winner (swapped solution) v ≡ opponent (winner solution v)
winner_swapped solution v lt = ap (λ (a : Answer). a.winner) (answer_swapped solution v lt)

choice_swapped : (solution : List Answer) (v : ℕ) → v < length solution → choice (swapped solution) v ≡ choice solution v
choice_swapped solution v lt = ap (λ (a : Answer). a.choice) (answer_swapped solution v lt)

same_opponent : (a b : Player) → opponent a ≡ opponent b → a ≡ b
same_opponent a b e = sym (opponent_twice a) ∙ ap opponent e ∙ opponent_twice b

-- a greatest priority, lowered

occurs_lowered : (f h : ℕ → ℕ) (p : ℕ) (xs : List ℕ) → All (λ v. h v ≡ f v + 1) xs → (k : ℕ) → k < length (map h xs)
    → get_or (map h xs) k p ≡ p → (q : ℕ) × (p ≡ q + 1) × Contains (map f xs) q
occurs_lowered f h p [] raised k lt e = absurd (omega arith)
occurs_lowered f h p (x ∷ xs) raised zero lt e =
    (f x, (let here : h x ≡ f x + 1 = All-head (λ v. h v ≡ f v + 1) x xs raised in omega arith), (0, omega arith, refl))
occurs_lowered f h p (x ∷ xs) raised (suc k) lt e =
    let c = occurs_lowered f h p xs (All-tail (λ v. h v ≡ f v + 1) x xs raised) k (omega arith) e in
    (c.0, c.1, (suc c.2.0, omega (arith, c.2.1), c.2.2))

above_lowered : (f h : ℕ → ℕ) (p q : ℕ) → p ≡ q + 1 → (xs : List ℕ) → All (λ v. h v ≡ f v + 1) xs → All (λ v. h v ≤ p) xs → All (λ v. f v ≤ q) xs
above_lowered f h p q s [] raised above = All-nil (λ v. f v ≤ q)
above_lowered f h p q s (x ∷ xs) raised above =
    let here : h x ≡ f x + 1 = All-head (λ v. h v ≡ f v + 1) x xs raised in
    let le : h x ≤ p = All-head (λ v. h v ≤ p) x xs above in
    All-cons (λ v. f v ≤ q) x xs (omega arith)
    (above_lowered f h p q s xs (All-tail (λ v. h v ≡ f v + 1) x xs raised) (All-tail (λ v. h v ≤ p) x xs above))

parity_lowered : (a : Player) (p q : ℕ) → p ≡ q + 1 → HasParityOf (opponent a) p → HasParityOf a q
parity_lowered Even p q s h = omega arith
parity_lowered Odd p q s h = omega arith

pub dual_solutions : (game : List GameVertex) (solution : List Answer) → IsGame game → IsSolution game solution → IsSafe game solution
    → IsSolution (dual game) (swapped solution) × IsSafe (dual game) (swapped solution)
dual_solutions game solution is_game is_solution safe = (
  record { whole = length-map solution swapped_answer ∙ is_solution.whole ∙ sym (length_dual game); chosen = chosen },
  record { none_leaves = none_leaves; no_bad_cycle = λ v rest b. safe.no_bad_cycle v rest (lowered v rest b) },
)
  where
    below : (v : ℕ) → v < length (dual game) → v < length game
    below v lt = omega (arith, length_dual game)

    answered : (v : ℕ) → v < length game → v < length solution
    answered v lt = omega (arith, is_solution.whole)

    chosen : (v : ℕ) → v < length (dual game) → owner (dual game) v ≡ winner (swapped solution) v
        → (w : ℕ) × (choice (swapped solution) v ≡ Some w) × IsEdge (dual game) v w
    chosen v lt e =
        let l : v < length game = below v lt in
        let a : v < length solution = answered v l in
        let c = is_solution.chosen v l (same_opponent (owner game v) (winner solution v) (sym (owner_dual game v l) ∙ e ∙ winner_swapped solution v a)) in
        (c.0, choice_swapped solution v a ∙ c.1, subst (λ (s : List ℕ). Contains s c.0) (sym (successors_dual game v)) c.2)

    counts : (v w : ℕ) → Counts (dual game) (swapped solution) v w → Counts game solution v w
    counts v w (edge, how) =
        let edge' : IsEdge game v w = subst (λ (s : List ℕ). Contains s w) (successors_dual game v) edge in
        let l : v < length game = edge_from game v w edge' in
        let a : v < length solution = answered v l in (
          edge',
          elim how [
            | inl e ↦ inl (same_opponent (owner game v) (loser solution v) (sym (owner_dual game v l) ∙ e ∙ ap opponent (winner_swapped solution v a)))
            | inr e ↦ inr (sym (choice_swapped solution v a) ∙ e)
          ],
        )

    none_leaves : NoneLeaves (dual game) (swapped solution)
    none_leaves v w c =
        let d = counts v w c in
        let l : v < length solution = answered v (edge_from game v w d.0) in
        let m : w < length solution = answered w (is_game.in_range v w d.0) in
        winner_swapped solution w m ∙ ap opponent (safe.none_leaves v w d) ∙ sym (winner_swapped solution v l)

    starts : (v : ℕ) (rest : List ℕ) → IsPath (Counts game solution) v (rest ++ v ∷ []) → v < length game
    starts v [] h = edge_from game v v h.0.0
    starts v (w ∷ rest) h = edge_from game v w h.0.0

    lowered : (v : ℕ) (rest : List ℕ) → IsBadCycle (dual game) (swapped solution) v rest → IsBadCycle game solution v rest
    lowered v rest b =
        let path = path_map (Counts (dual game) (swapped solution)) (Counts game solution) (λ _. Unit {0})
        (λ v w q s. (counts v w s, tt)) v (rest ++ v ∷ []) tt b.closes in
        let l : v < length game = starts v rest path in
        let inside : All (λ u. u < length game) (v ∷ rest) = all_front (λ u. u < length game) (v ∷ rest) (v ∷ [])
        (path_keeps (Counts game solution) (λ u. u < length game) (λ u w h s. is_game.in_range u w s.0) v (rest ++ v ∷ []) path l) in
        let raised : All (λ u. priority (dual game) u ≡ priority game u + 1) (v ∷ rest) =
        λ k d lt. priority_dual game (get_or (v ∷ rest) k d) (inside k d lt) in
        let g = b.lost.1 in
        let low = occurs_lowered (priority game) (priority (dual game)) b.lost.0 (v ∷ rest) raised g.occurs.0 g.occurs.1 g.occurs.2 in
        record {
          closes = path;
          lost = (
            low.0,
            record {
              occurs = low.2;
              above_all = All-map (λ q. q ≤ low.0) (priority game) (v ∷ rest)
                  (above_lowered (priority game) (priority (dual game)) b.lost.0 low.0 low.1 (v ∷ rest) raised
                  (all_unmap (priority (dual game)) (λ q. q ≤ b.lost.0) (v ∷ rest) g.above_all));
            },
            parity_lowered (loser solution v) b.lost.0 low.0 low.1
                (subst (λ w. HasParityOf (opponent w) b.lost.0) (winner_swapped solution v (answered v l)) b.lost.2),
          );
        }
