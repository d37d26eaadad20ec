-- The vertices of a verdict are the game's, and the greatest of its priorities.
use Rattle.pg_cli_command.proofs.Common.{◌≡◌, ℕ, ◌+◌, ◌<◌, List, [], ◌∷◌, ◌++◌, length, take, get_or, max, map, ap, subst, ◌∙◌, arith, inl, inr}
use Rattle.pg_cli_command.proofs.Common.{All, Contains, ord_max, nat_cmp, common_steps, cases_lt, take_more, map-append, get_or_past, All-cons}
use Rattle.pg_cli_command.proofs.Common.{GameVertex, IsGame, IsEdge, IsPath, successors, nowhere, Answer, Counts, IsBadCycle, path_front}
use Rattle.pg_cli_command.proofs.Common.{Refutes, IsSimpleBadCycle, Verdict, Wins, Leaves, BadCycle, greatest, IsWithin}

greatest_append : (ns : List ℕ) (n : ℕ) → greatest (ns ++ n ∷ []) ≡ max (greatest ns) n
greatest_append [] n = omega arith
greatest_append (m ∷ ns) n = let e = greatest_append ns n in omega arith

-- the greatest of the first i + 1 values
pub greatest_more : (f : ℕ → ℕ) (vs : List ℕ) (i : ℕ) → i < length vs
    → greatest (map f (take (i + 1) vs)) ≡ max (greatest (map f (take i vs))) (f (get_or vs i 0))
greatest_more f vs i lt =
    ap (λ l. greatest (map f l)) (take_more vs i 0 lt) ∙ ap greatest (map-append f (take i vs) (get_or vs i 0 ∷ []))
    ∙ greatest_append (map f (take i vs)) (f (get_or vs i 0))

-- only a vertex of the game has an edge
edge_from : (game : List GameVertex) (v w : ℕ) → IsEdge game v w → v < length game
edge_from game v w edge = elim (cases_lt v (length game)) [
  | inl lt ↦ lt
  | inr past ↦
      let none : successors game v ≡ [] = ap (λ (x : GameVertex). x.successors) (get_or_past game v nowhere past) in
      let bad : Contains [] w = subst (λ (ws : List ℕ). Contains ws w) none edge in
      let low : bad.0 < 0 = bad.1 in
      absurd (omega arith)
]

path_within : (game : List GameVertex) (solution : List Answer) → IsGame game → (v : ℕ) (rest : List ℕ)
    → IsPath (Counts game solution) v rest → All (λ u. u < length game) rest
path_within game solution well v [] path = λ k d lt. absurd (omega arith)
path_within game solution well v (w ∷ rest) path =
    All-cons (λ u. u < length game) w rest (well.in_range v w path.0.0) (path_within game solution well w rest path.1)

-- the first vertex of a cycle has an edge
first_within : (game : List GameVertex) (solution : List Answer) (v : ℕ) (rest : List ℕ) → IsPath (Counts game solution) v (rest ++ v ∷ []) → v < length game
first_within game solution v [] path = edge_from game v v path.0.0
first_within game solution v (w ∷ rest) path = edge_from game v w path.0.0

cycle_within : (game : List GameVertex) (solution : List Answer) → IsGame game → (v : ℕ) (rest : List ℕ) → IsBadCycle game solution v rest
    → All (λ u. u < length game) (v ∷ rest)
cycle_within game solution well v rest bad =
    All-cons (λ u. u < length game) v rest (first_within game solution v rest bad.closes)
    (path_within game solution well v rest (path_front (Counts game solution) v rest (v ∷ []) bad.closes))

pub verdict_within : (game : List GameVertex) (solution : List Answer) → IsGame game → (verdict : Verdict) → Refutes game solution verdict
    → IsWithin game verdict
verdict_within game solution well Wins refutes = tt
verdict_within game solution well (Leaves v w) refutes =
    (edge_from game v w refutes.leaving.0.0, well.in_range v w refutes.leaving.0.0)
verdict_within game solution well (BadCycle cycle) refutes = whole cycle.items refutes.1
  where
    whole : (vs : List ℕ) → IsSimpleBadCycle game solution vs → All (λ u. u < length game) vs
    whole [] bad = absurd bad
    whole (v ∷ rest) bad = cycle_within game solution well v rest bad.1

-- the greater of two numbers, as a comparison picks it
pub ord_max_is : (a b : ℕ) → ord_max nat_cmp a b ≡ max a b
ord_max_is a b = grind (arith, common_steps)
