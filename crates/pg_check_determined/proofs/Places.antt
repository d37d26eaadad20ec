-- Vertices that differ and have one priority are at most as many as the game has of it.
use Rattle.pg_check_determined.proofs.Common.{◌≡◌, ℕ, zero, suc, ◌+◌, ◌<◌, ◌≤◌, Bool, true, false, cond, eqb, List, [], ◌∷◌, length, map, arith}
use Rattle.pg_check_determined.proofs.Common.{sym, subst, refl, ap, ◌∙◌, IsDistinct, All, Contains, eqb-true, eq-eqb, nat_eq_equiv, length-map}
use Rattle.pg_check_determined.proofs.Common.{get_or-map, All-nil, All-cons, All-contains, sum_by-cons, length-le_from_is_member}
use Rattle.pg_check_determined.proofs.Common.{Contains-from_any, list_any-from_Contains, GameVertex, priority, vertices_of}

-- the numbers of the vertices that have the priority p
abbrev places : ℕ → List GameVertex → List ℕ
places p [] = []
places p (x ∷ game) = cond (eqb x.priority p) (0 ∷ map suc (places p game)) (map suc (places p game))

length_places : (p : ℕ) (game : List GameVertex) → length (places p game) ≡ vertices_of game p
length_places p [] = refl
length_places p (x ∷ game) = rw (sum_by-cons (λ (y : GameVertex). cond (eqb y.priority p) 1 0) x game) (go (eqb x.priority p) (length_places p game))
  where
    go : (t : Bool) → length (places p game) ≡ vertices_of game p
        → length (cond t (0 ∷ map suc (places p game)) (map suc (places p game))) ≡ cond t 1 0 + vertices_of game p
    go true ih = omega (arith, length-map (places p game) suc)
    go false ih = omega (arith, length-map (places p game) suc)

raised : (ys : List ℕ) (v : ℕ) → Contains ys v → Contains (map suc ys) (suc v)
raised ys v (k, lt, e) = (k, omega (arith, length-map ys suc), get_or-map suc ys k v (suc v) lt ∙ ap suc e)

has_place : (p : ℕ) (game : List GameVertex) (v : ℕ) → v < length game → priority game v ≡ p → Contains (places p game) v
has_place p [] v lt e = absurd (omega arith)
has_place p (x ∷ game) zero lt e =
    subst (λ t. Contains (cond t (0 ∷ map suc (places p game)) (map suc (places p game))) 0) (sym (eq-eqb x.priority p e)) (0, omega arith, refl)
has_place p (x ∷ game) (suc v) lt e = go (eqb x.priority p) (raised (places p game) v (has_place p game v (omega arith) e))
  where
    go : (t : Bool) → Contains (map suc (places p game)) (suc v) → Contains (cond t (0 ∷ map suc (places p game)) (map suc (places p game))) (suc v)
    go true (k, l, same) = (suc k, omega arith, same)
    go false c = c

pub few_places : (game : List GameVertex) (p : ℕ) (ys : List ℕ) → IsDistinct eqb ys → All (λ v. v < length game) ys
    → All (λ v. priority game v ≡ p) ys → length ys ≤ vertices_of game p
few_places game p ys distinct below same =
    let le : length ys ≤ length (places p game) = length-le_from_is_member nat_eq_equiv ys (places p game) distinct (λ q h.
    let c = Contains-from_any eqb-true q ys h in
    list_any-from_Contains nat_eq_equiv q (places p game)
    (has_place p game q (All-contains (λ v. v < length game) ys q below c) (All-contains (λ v. priority game v ≡ p) ys q same c))) in
    omega (arith, length_places p game)

-- a vertex has its priority
pub some_place : (game : List GameVertex) (v : ℕ) → v < length game → 0 < vertices_of game (priority game v)
unfolding IsDistinct
some_place game v lt = omega (
  arith,
  few_places game (priority game v) (v ∷ []) (tt, tt)
      (All-cons (λ u. u < length game) v [] lt (All-nil (λ u. u < length game)))
      (All-cons (λ u. priority game u ≡ priority game v) v [] refl (All-nil (λ u. priority game u ≡ priority game v))),
)
