-- What events keep true of a world.
use Rattle.pg_world.proofs.Common.{◌≡◌, ◌≢◌, ℕ, ◌+◌, ◌<◌, ◌≤◌, List, [], ◌∷◌, ◌++◌, length, get_or, set, replicate, sym, ◌∙◌, ◌⊎◌, inl, inr}
use Rattle.pg_world.proofs.Common.{arith, subst, All, cases_eq, cases_lt, get_or-set_other, get_or-set_same, get_or-replicate, get_or_past}
use Rattle.pg_world.proofs.Common.{length-replicate, length-append, length-set, All-nil, All-push, All-weaker, GameVertex, IsGame}
use Rattle.pg_world.proofs.Common.{BoundList, MeasureValue, IsBoundsOf, game_line, IsMap, zero_map, IsJoin, ZeroMapIsLeast, CutValue}
use Rattle.pg_world.proofs.Common.{UpdateValue, map_of_update, IsJoinOf, WorldValue, new_world, taken_of, IsMapOf, taking, forgetting}
use Rattle.pg_world.proofs.Common.{making, IsMade, IsWorld}
use Rattle.pg_world.proofs.Joining.{as_map, join_none, join_more, join_longer, last_at}

-- what all replicas took, where that of one is replaced
pub replaced : (P : List ℕ → Type 0) (ts : List (List ℕ)) (r q : ℕ) (t : List ℕ) → P t → P [] → ((q : ℕ) → P (get_or ts q [])) → P (get_or (set ts r t) q [])
replaced P ts r q t here past others = cases (cases_eq q r)
  where
    at : (r < length ts) ⊎ (length ts ≤ r) → P (get_or (set ts r t) r [])
    at (inl l) = subst P (sym (get_or-set_same ts r t [] l)) here
    at (inr l) = subst P (sym (get_or_past (set ts r t) r [] (omega (arith, length-set ts r t)))) past

    cases : (q ≡ r) ⊎ (q ≢ r) → P (get_or (set ts r t) q [])
    cases (inl e) = subst (λ (x : ℕ). P (get_or (set ts r t) x [])) (sym e) (at (cases_lt r (length ts)))
    cases (inr ne) = subst P (sym (get_or-set_other ts r q t [] ne)) (others q)

pub new_is_world : (game : List GameVertex) (bounds : BoundList) (cut : CutValue) → IsGame game → IsBoundsOf game bounds → IsWorld (new_world game bounds cut)
new_is_world game bounds cut g b = record {
  game = g;
  bounds = b;
  size = length-replicate (1 + cut.workers) [];
  made = All-nil (IsMade bounds (game_line game) (length game));
  taken = λ r. nothing r (cases_lt r (1 + cut.workers));
}
  where
    nothing : (r : ℕ) → (r < 1 + cut.workers) ⊎ (1 + cut.workers ≤ r) → All (λ n. n < 0) (get_or (replicate (1 + cut.workers) []) r [])
    nothing r (inl l) = subst (λ (t : List ℕ). All (λ n. n < 0) t) (sym (get_or-replicate {A = List ℕ} (1 + cut.workers) r [] [] l)) (All-nil (λ n. n < 0))
    nothing r (inr l) = subst (λ (t : List ℕ). All (λ n. n < 0) t)
        (sym (get_or_past (replicate (1 + cut.workers) []) r [] (omega (arith, length-replicate {A = List ℕ} (1 + cut.workers) []))))
        (All-nil (λ n. n < 0))

pub taking_is_world : (w : WorldValue) (r n : ℕ) → IsWorld w → n < length w.updates → IsWorld (taking w r n)
taking_is_world w r n i l = record {
  game = i.game;
  bounds = i.bounds;
  size = length-set w.taken r (taken_of w r ++ n ∷ []) ∙ i.size;
  made = i.made;
  taken = λ q. replaced (λ t. All (λ n. n < length w.updates) t) w.taken r q (taken_of w r ++ n ∷ [])
      (All-push (λ n. n < length w.updates) (taken_of w r) n (i.taken r) l) (All-nil (λ n. n < length w.updates)) i.taken;
}

pub forgetting_is_world : (w : WorldValue) (r : ℕ) → IsWorld w → IsWorld (forgetting w r)
forgetting_is_world w r i = record {
  game = i.game;
  bounds = i.bounds;
  size = length-set w.taken r [] ∙ i.size;
  made = i.made;
  taken = λ q. replaced (λ t. All (λ n. n < length w.updates) t) w.taken r q [] (All-nil (λ n. n < length w.updates))
      (All-nil (λ n. n < length w.updates)) i.taken;
}

-- numbers below are below one more
below_longer : (us : List UpdateValue) (u : UpdateValue) (t : List ℕ) → All (λ n. n < length us) t → All (λ n. n < length (us ++ u ∷ [])) t
below_longer us u t a = All-weaker (λ n. n < length us) (λ n. n < length (us ++ u ∷ [])) (λ n l. omega (arith, length-append us (u ∷ []))) t a

pub making_is_world : (w : WorldValue) (r : ℕ) (u : UpdateValue) → IsWorld w → IsMade w.bounds (game_line w.game) (length w.game) u → IsWorld (making w r u)
making_is_world w r u i m = record {
  game = i.game;
  bounds = i.bounds;
  size = length-set w.taken r (taken_of w r ++ length w.updates ∷ []) ∙ i.size;
  made = All-push (IsMade w.bounds (game_line w.game) (length w.game)) w.updates u i.made m;
  taken = λ q. replaced (λ t. All (λ n. n < length (w.updates ++ u ∷ [])) t) w.taken r q (taken_of w r ++ length w.updates ∷ [])
      (All-push (λ n. n < length (w.updates ++ u ∷ [])) (taken_of w r) (length w.updates)
      (below_longer w.updates u (taken_of w r) (i.taken r)) (omega (arith, length-append w.updates (u ∷ []))))
      (All-nil (λ n. n < length (w.updates ++ u ∷ []))) (λ q. below_longer w.updates u (taken_of w q) (i.taken q));
}

-- ---- maps of the replicas

pub map_after_taking : (w : WorldValue) (r n : ℕ) (f g : List MeasureValue) → IsWorld w → r ≤ w.cut.workers → IsMapOf w r f
    → IsMap w.bounds (length w.game) g → IsJoin f (as_map w.bounds (length w.game) w.updates n) g → IsMapOf (taking w r n) r g
map_after_taking w r n f g i l j m k =
    let within : r < length w.taken = omega (arith, i.size) in
    subst (λ (t : List ℕ). IsJoinOf w.bounds (length w.game) w.updates t g) (sym (get_or-set_same w.taken r (taken_of w r ++ n ∷ []) [] within))
    (join_more w.bounds (length w.game) w.updates (taken_of w r) n f g j m k)

pub map_besides_taking : (w : WorldValue) (r q n : ℕ) (f : List MeasureValue) → q ≢ r → IsMapOf w q f → IsMapOf (taking w r n) q f
map_besides_taking w r q n f ne j = subst (λ (t : List ℕ). IsJoinOf w.bounds (length w.game) w.updates t f)
    (sym (get_or-set_other w.taken r q (taken_of w r ++ n ∷ []) [] ne)) j

pub map_after_forgetting : ZeroMapIsLeast → (w : WorldValue) (r : ℕ) → IsWorld w → r ≤ w.cut.workers
    → IsMapOf (forgetting w r) r (zero_map w.bounds (length w.game))
map_after_forgetting z w r i l =
    let within : r < length w.taken = omega (arith, i.size) in
    subst (λ (t : List ℕ). IsJoinOf w.bounds (length w.game) w.updates t (zero_map w.bounds (length w.game))) (sym (get_or-set_same w.taken r [] [] within))
    (join_none z w.bounds (length w.game) w.updates)

pub map_besides_forgetting : (w : WorldValue) (r q : ℕ) (f : List MeasureValue) → q ≢ r → IsMapOf w q f → IsMapOf (forgetting w r) q f
map_besides_forgetting w r q f ne j = subst (λ (t : List ℕ). IsJoinOf w.bounds (length w.game) w.updates t f) (sym (get_or-set_other w.taken r q [] [] ne)) j

pub map_after_making : (w : WorldValue) (r : ℕ) (u : UpdateValue) (f g : List MeasureValue) → IsWorld w → r ≤ w.cut.workers → IsMapOf w r f
    → IsMap w.bounds (length w.game) g → IsJoin f (map_of_update w.bounds (length w.game) u) g → IsMapOf (making w r u) r g
map_after_making w r u f g i l j m k =
    let within : r < length w.taken = omega (arith, i.size) in
    let us : List UpdateValue = w.updates ++ u ∷ [] in
    subst (λ (t : List ℕ). IsJoinOf w.bounds (length w.game) us t g) (sym (get_or-set_same w.taken r (taken_of w r ++ length w.updates ∷ []) [] within))
    (join_more w.bounds (length w.game) us (taken_of w r) (length w.updates) f g
    (join_longer w.bounds (length w.game) w.updates u (taken_of w r) f (i.taken r) j) m
    (subst (λ (x : UpdateValue). IsJoin f (map_of_update w.bounds (length w.game) x) g) (sym (last_at w.bounds w.updates u)) k))

pub map_besides_making : (w : WorldValue) (r q : ℕ) (u : UpdateValue) (f : List MeasureValue) → IsWorld w → q ≢ r → IsMapOf w q f → IsMapOf (making w r u) q f
map_besides_making w r q u f i ne j =
    subst (λ (t : List ℕ). IsJoinOf w.bounds (length w.game) (w.updates ++ u ∷ []) t f)
    (sym (get_or-set_other w.taken r q (taken_of w r ++ length w.updates ∷ []) [] ne))
    (join_longer w.bounds (length w.game) w.updates u (taken_of w q) f (i.taken q) j)

pub new_map : ZeroMapIsLeast → (game : List GameVertex) (bounds : BoundList) (cut : CutValue) (r : ℕ) → r ≤ cut.workers
    → IsMapOf (new_world game bounds cut) r (zero_map bounds (length game))
new_map z game bounds cut r l =
    let within : r < 1 + cut.workers = omega arith in
    subst (λ (t : List ℕ). IsJoinOf bounds (length game) [] t (zero_map bounds (length game)))
    (sym (get_or-replicate {A = List ℕ} (1 + cut.workers) r [] [] within))
    (join_none z bounds (length game) [])
