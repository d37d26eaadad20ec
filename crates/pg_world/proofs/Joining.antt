-- Joins of the updates that were taken.
use Rattle.pg_world.proofs.Common.{◌≡◌, ◌≢◌, ℕ, ◌<◌, None, List, [], ◌∷◌, ◌++◌, length, get_or, set, sym, ◌∙◌, ◌⊎◌, inl, inr, arith, subst}
use Rattle.pg_world.proofs.Common.{All, cases_eq, get_or-set_other, get_or-set_same, length-replicate, get_or_append_left, length-append}
use Rattle.pg_world.proofs.Common.{length-set, All-nil, All-push, All-set, All-weaker, All-contains, Contains-get_or, get_or-append_seam}
use Rattle.pg_world.proofs.Common.{BoundList, MeasureValue, Fits, zeros, AtMost, IsBelow, OrderIsTotal, measure_at, IsMap, zero_map}
use Rattle.pg_world.proofs.Common.{update_map, MapAtMost, IsJoin, ZeroMapIsLeast, maps_same, map_transitive, UpdateValue, update_at}
use Rattle.pg_world.proofs.Common.{map_of_update, IsJoinOf, AreTakenToo}

-- the update with the number k as a map
abbrev pub as_map : BoundList → ℕ → List UpdateValue → ℕ → List MeasureValue
as_map bs n us k = map_of_update bs n (update_at bs us k)

-- where nothing is taken the join is zero
pub join_none : ZeroMapIsLeast → (bs : BoundList) (n : ℕ) (us : List UpdateValue) → IsJoinOf bs n us [] (zero_map bs n)
join_none z bs n us = record {
  map = (z bs n).0;
  above = All-nil (λ k. MapAtMost (as_map bs n us k) (zero_map bs n));
  least = λ h m a. (z bs n).1 h m;
}

-- one more is taken
pub join_more : (bs : BoundList) (n : ℕ) (us : List UpdateValue) (ks : List ℕ) (k : ℕ) (f g : List MeasureValue) → IsJoinOf bs n us ks f
    → IsMap bs n g → IsJoin f (as_map bs n us k) g → IsJoinOf bs n us (ks ++ k ∷ []) g
join_more bs n us ks k f g j m i = record {
  map = m;
  above = All-push (λ x. MapAtMost (as_map bs n us x) g) ks k
      (All-weaker (λ x. MapAtMost (as_map bs n us x) f) (λ x. MapAtMost (as_map bs n us x) g)
      (λ x a. map_transitive (as_map bs n us x) f g a i.first) ks j.above)
      i.second;
  least = λ h w a. i.least h
      (j.least h w (λ x d l. subst (λ (y : ℕ). MapAtMost (as_map bs n us y) h) (get_or_append_left ks (k ∷ []) d x l)
      (a x d (omega (arith, length-append ks (k ∷ []))))))
      (subst (λ (y : ℕ). MapAtMost (as_map bs n us y) h) (get_or-append_seam ks k [] 0) (a (length ks) 0 (omega (arith, length-append ks (k ∷ [])))));
}

pub kept_at : (bs : BoundList) (us : List UpdateValue) (u : UpdateValue) (k : ℕ) → k < length us → update_at bs (us ++ u ∷ []) k ≡ update_at bs us k
kept_at bs us u k l = get_or_append_left us (u ∷ []) (record { vertex = 0; measure = zeros bs }) k l

-- the new update stands behind the others
pub last_at : (bs : BoundList) (us : List UpdateValue) (u : UpdateValue) → update_at bs (us ++ u ∷ []) (length us) ≡ u
last_at bs us u = get_or-append_seam us u [] (record { vertex = 0; measure = zeros bs })

-- a new update changes no join of those before it
pub join_longer : (bs : BoundList) (n : ℕ) (us : List UpdateValue) (u : UpdateValue) (ks : List ℕ) (f : List MeasureValue)
    → All (λ k. k < length us) ks → IsJoinOf bs n us ks f → IsJoinOf bs n (us ++ u ∷ []) ks f
join_longer bs n us u ks f b j = record {
  map = j.map;
  above = λ i d l. subst (λ (x : UpdateValue). MapAtMost (map_of_update bs n x) f) (sym (kept_at bs us u (get_or ks i d) (b i d l))) (j.above i d l);
  least = λ h w a. j.least h w (λ i d l. subst (λ (x : UpdateValue). MapAtMost (map_of_update bs n x) h) (kept_at bs us u (get_or ks i d) (b i d l)) (a i d l));
}

update_here : (bs : BoundList) (n v : ℕ) (m : MeasureValue) → v < n → measure_at (update_map bs n v m) v ≡ m
update_here bs n v m l = let k : v < length (zero_map bs n) = rw length-replicate l in get_or-set_same (zero_map bs n) v m None k

update_other : (bs : BoundList) (n v u : ℕ) (m : MeasureValue) → u ≢ v → measure_at (update_map bs n v m) u ≡ measure_at (zero_map bs n) u
update_other bs n v u m ne = get_or-set_other (zero_map bs n) v u m None ne

-- an update is at most a map that is at least its measure at its vertex
pub update_under : ZeroMapIsLeast → (bs : BoundList) (n v : ℕ) (m : MeasureValue) (h : List MeasureValue) → v < n → IsMap bs n h
    → AtMost m (measure_at h v) → MapAtMost (update_map bs n v m) h
update_under z bs n v m h l w a = λ u. at u (cases_eq u v)
  where
    at : (u : ℕ) → (u ≡ v) ⊎ (u ≢ v) → AtMost (measure_at (update_map bs n v m) u) (measure_at h u)
    at u (inl e) = rw (e, update_here bs n v m l) a
    at u (inr ne) = rw (update_other bs n v u m ne) ((z bs n).1 h w u)

-- the measure of an update is at most that of a map that the update is at most
pub update_at_vertex : (bs : BoundList) (n v : ℕ) (m : MeasureValue) (h : List MeasureValue) → v < n → MapAtMost (update_map bs n v m) h
    → AtMost m (measure_at h v)
update_at_vertex bs n v m h l a = subst (λ (x : MeasureValue). AtMost x (measure_at h v)) (update_here bs n v m l) (a v)

-- a greater measure put in its place is the join with the update
pub raise_joins : OrderIsTotal → ZeroMapIsLeast → (bs : BoundList) (n : ℕ) (f : List MeasureValue) (v : ℕ) (m : MeasureValue) → IsMap bs n f
    → Fits bs m → v < n → IsBelow (measure_at f v) m → IsJoin f (update_map bs n v m) (set f v m)
raise_joins o z bs n f v m w fits l b = record {
  first = λ u. risen u (cases_eq u v);
  second = update_under z bs n v m (set f v m) l (set_is_map) (rw (here) (o.reflexive m));
  least = λ k p q u. under k p q u (cases_eq u v);
}
  where
    within : v < length f
    within = let e : length f ≡ n = w.size in omega arith

    here : measure_at (set f v m) v ≡ m
    here = get_or-set_same f v m None within

    set_is_map : IsMap bs n (set f v m)
    set_is_map = record { size = length-set f v m ∙ w.size; fits = All-set (Fits bs) f v m fits w.fits }

    risen : (u : ℕ) → (u ≡ v) ⊎ (u ≢ v) → AtMost (measure_at f u) (measure_at (set f v m) u)
    risen u (inl e) = rw (e, here) ((o.strict (measure_at f v) m b).0)
    risen u (inr ne) = rw (get_or-set_other f v u m None ne) (o.reflexive (measure_at f u))

    under : (k : List MeasureValue) → MapAtMost f k → MapAtMost (update_map bs n v m) k → (u : ℕ) → (u ≡ v) ⊎ (u ≢ v)
        → AtMost (measure_at (set f v m) u) (measure_at k u)
    under k p q u (inl e) = rw (e, here) (update_at_vertex bs n v m k l q)
    under k p q u (inr ne) = rw (get_or-set_other f v u m None ne) (p u)

above_too : (bs : BoundList) (n : ℕ) (us vs : List UpdateValue) (ks js : List ℕ) (g : List MeasureValue) → AreTakenToo bs us ks vs js
    → All (λ k. MapAtMost (as_map bs n vs k) g) js → All (λ k. MapAtMost (as_map bs n us k) g) ks
above_too bs n us vs ks js g t a = λ i d l.
    let here = t (get_or ks i d) (Contains-get_or ks i d l) in
    subst (λ (x : UpdateValue). MapAtMost (map_of_update bs n x) g) here.2 (All-contains (λ k. MapAtMost (as_map bs n vs k) g) js here.0 a here.1)

-- there is one join
pub one_join : (bs : BoundList) (n : ℕ) (us vs : List UpdateValue) (ks js : List ℕ) (f g : List MeasureValue) → AreTakenToo bs us ks vs js
    → AreTakenToo bs vs js us ks → IsJoinOf bs n us ks f → IsJoinOf bs n vs js g → f ≡ g
one_join bs n us vs ks js f g a b i j =
    let size : length f ≡ length g = i.map.size ∙ sym (j.map.size) in
    maps_same f g size (i.least g j.map (above_too bs n us vs ks js g a j.above)) (j.least f i.map (above_too bs n vs us js ks f b i.above))
