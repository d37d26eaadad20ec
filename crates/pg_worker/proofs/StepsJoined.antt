-- What a worker's map is the join of.
use Rattle.pg_worker.proofs.Common.{◌≡◌, ◌≢◌, ℕ, ◌<◌, List, [], ◌∷◌, ◌++◌, length, map, refl, sym, subst, ap, ◌∙◌, ◌⊎◌, inl, inr, None, Option, cases_eq}
use Rattle.pg_worker.proofs.Common.{All-append, All-cons, All-head, All-nil, All-weaker, all_left, all_right, get_or-set_same, get_or-set_other, length-replicate, length-set}
use Rattle.pg_worker.proofs.Common.{BoundList, MeasureValue, AtMost, Line, measure_at, zero_map, update_map, MapAtMost, IsJoin, Update}
use Rattle.pg_worker.proofs.Common.{at_most_all, at_most_same, below_is, map_reflexive, map_transitive, Measured, Joins, IsAtLeast}
use Rattle.pg_worker.proofs.Common.{IsLiftBy, AreLifts, Step, Taken, Lifted, AreSteps, updates_in}

-- the map is at least one measure
one_of : (h : List MeasureValue) (m : Measured) → AtMost m.1 (measure_at h m.0) → IsAtLeast h (m ∷ [])
one_of h m le = All-cons (λ (x : Measured). AtMost x.1 (measure_at h x.0)) m [] le (All-nil (λ (x : Measured). AtMost x.1 (measure_at h x.0)))

the_one : (h : List MeasureValue) (m : Measured) → IsAtLeast h (m ∷ []) → AtMost m.1 (measure_at h m.0)
the_one h m a = All-head (λ (x : Measured). AtMost x.1 (measure_at h x.0)) m [] a

joins_nothing : (f : List MeasureValue) → Joins f [] f
joins_nothing f = record {
  size = refl;
  above = map_reflexive f;
  each = All-nil (λ (x : Measured). AtMost x.1 (measure_at f x.0));
  least = λ h le a. le;
}

joins_then : (f g h : List MeasureValue) (ms ns : List Measured) → Joins f ms g → Joins g ns h → Joins f (ms ++ ns) h
joins_then f g h ms ns a b = record {
  size = b.size ∙ a.size;
  above = map_transitive f g h a.above b.above;
  each = All-append (holds h) ms ns
      (All-weaker (holds g) (holds h) (λ x le. at_most_all x.1 (measure_at g x.0) (measure_at h x.0) le (b.above x.0)) ms a.each) b.each;
  least = λ k le each. b.least k (a.least k le (all_left (holds k) ms ns each)) (all_right (holds k) ms ns each);
}
  where
    holds : List MeasureValue → Measured → Type 0
    holds k x = AtMost x.1 (measure_at k x.0)

-- an update by a lift is joined
lift_joins : (bs : BoundList) (lines : ℕ → Option Line) (f g : List MeasureValue) (u : Update) → IsLiftBy bs lines f u g
    → Joins f ((u.vertex, u.measure.value) ∷ []) g
lift_joins bs lines f g u l = record {
  size = ap length l.lifted.others ∙ length-set f u.vertex (measure_at g u.vertex);
  above = λ v. risen v (cases_eq v u.vertex);
  each = one_of g (u.vertex, u.measure.value) (subst (λ (m : MeasureValue). AtMost m (measure_at g u.vertex)) (sym told) (at_most_same (measure_at g u.vertex)));
  least = λ k le each. λ v. under k le (the_one k (u.vertex, u.measure.value) each) v (cases_eq v u.vertex);
}
  where
    told : u.measure.value ≡ measure_at g u.vertex
    told = ap (λ m. m.value) l.measure

    other : (v : ℕ) → v ≢ u.vertex → measure_at g v ≡ measure_at f v
    other v ne = ap (λ (x : List MeasureValue). measure_at x v) l.lifted.others ∙ get_or-set_other f u.vertex v (measure_at g u.vertex) None ne

    risen : (v : ℕ) → (v ≡ u.vertex) ⊎ (v ≢ u.vertex) → AtMost (measure_at f v) (measure_at g v)
    risen v (inl e) = subst (λ (x : ℕ). AtMost (measure_at f x) (measure_at g x)) (sym e) (below_is (measure_at f u.vertex) (measure_at g u.vertex) l.lifted.above)
    risen v (inr ne) = subst (λ (m : MeasureValue). AtMost (measure_at f v) m) (sym (other v ne)) (at_most_same (measure_at f v))

    under : (k : List MeasureValue) → MapAtMost f k → AtMost u.measure.value (measure_at k u.vertex) → (v : ℕ)
        → (v ≡ u.vertex) ⊎ (v ≢ u.vertex) → AtMost (measure_at g v) (measure_at k v)
    under k le here v (inl e) = subst (λ (x : ℕ). AtMost (measure_at g x) (measure_at k x)) (sym e)
        (subst (λ (m : MeasureValue). AtMost m (measure_at k u.vertex)) told here)
    under k le here v (inr ne) = subst (λ (m : MeasureValue). AtMost m (measure_at k v)) (sym (other v ne)) (le v)

lifts_join : (bs : BoundList) (lines : ℕ → Option Line) (f g : List MeasureValue) (us : List Update) → AreLifts bs lines f us g
    → Joins f (map (λ u. (u.vertex, u.measure.value)) us) g
lifts_join bs lines f g [] e = subst (λ (x : List MeasureValue). Joins f [] x) (sym e) (joins_nothing f)
lifts_join bs lines f g (u ∷ us) r =
    joins_then f r.0 g ((u.vertex, u.measure.value) ∷ []) (map (λ u. (u.vertex, u.measure.value)) us)
    (lift_joins bs lines f r.0 u r.1) (lifts_join bs lines r.0 g us r.2)

-- a value that is taken is joined to a map that is at least zeros
take_joins : (bs : BoundList) (f h : List MeasureValue) (v : ℕ) (m : MeasureValue) → MapAtMost (zero_map bs (length f)) f → v < length f
    → length h ≡ length f → IsJoin f (update_map bs (length f) v m) h → Joins f ((v, m) ∷ []) h
take_joins bs f h v m z l s j = record {
  size = s;
  above = j.first;
  each = one_of h (v, m) (subst (λ (x : MeasureValue). AtMost x (measure_at h v)) here (j.second v));
  least = λ k le each. j.least k le (λ u. under k le (the_one k (v, m) each) u (cases_eq u v));
}
  where
    here : measure_at (update_map bs (length f) v m) v ≡ m
    here = let size : v < length (zero_map bs (length f)) = rw length-replicate l in get_or-set_same (zero_map bs (length f)) v m None size

    under : (k : List MeasureValue) → MapAtMost f k → AtMost m (measure_at k v) → (u : ℕ) → (u ≡ v) ⊎ (u ≢ v)
        → AtMost (measure_at (update_map bs (length f) v m) u) (measure_at k u)
    under k le at u (inl e) = rw (e, here) at
    under k le at u (inr ne) = rw (get_or-set_other (zero_map bs (length f)) v u m None ne)
        (map_transitive (zero_map bs (length f)) f k z le u)

-- a map that is at least zeros stays so
still : (bs : BoundList) (f g : List MeasureValue) (ms : List Measured) → MapAtMost (zero_map bs (length f)) f → Joins f ms g
    → MapAtMost (zero_map bs (length g)) g
still bs f g ms z j = rw j.size (map_transitive (zero_map bs (length f)) f g z j.above)

pub steps_join : (bs : BoundList) (lines : ℕ → Option Line) (f g : List MeasureValue) (ss : List Step) → MapAtMost (zero_map bs (length f)) f
    → AreSteps bs lines f ss g → Joins f (updates_in ss) g
steps_join bs lines f g [] z e = subst (λ (x : List MeasureValue). Joins f [] x) (sym e) (joins_nothing f)
steps_join bs lines f g (Taken v m ∷ ss) z r =
    let one : Joins f ((v, m) ∷ []) r.0 = take_joins bs f r.0 v m z r.1 r.2 r.3 in
    joins_then f r.0 g ((v, m) ∷ []) (updates_in ss) one (steps_join bs lines r.0 g ss (still bs f r.0 ((v, m) ∷ []) z one) r.4)
steps_join bs lines f g (Lifted us ∷ ss) z r =
    let some : Joins f (map (λ u. (u.vertex, u.measure.value)) us) r.0 = lifts_join bs lines f r.0 us r.2 in
    joins_then f r.0 g (map (λ u. (u.vertex, u.measure.value)) us) (updates_in ss) some
    (steps_join bs lines r.0 g ss (still bs f r.0 (map (λ u. (u.vertex, u.measure.value)) us) z some) r.3)

pub from_zeros : (bs : BoundList) (lines : ℕ → Option Line) (count : ℕ) (ss : List Step) (g : List MeasureValue)
    → AreSteps bs lines (zero_map bs count) ss g → Joins (zero_map bs count) (updates_in ss) g
from_zeros bs lines count ss g r = steps_join bs lines (zero_map bs count) g ss (rw length-replicate (map_reflexive (zero_map bs count))) r
