-- How the coordinator's map rises, step by step.
use Rattle.pg_coord_rounds.proofs.Common.{◌≡◌, ℕ, ◌<◌, ◌≤◌, ◌⊎◌, ◌≢◌, Bool, true, false, None, List, length, set, refl, ap, sym, ◌∙◌, inl, inr}
use Rattle.pg_coord_rounds.proofs.Common.{arith, subst, Option, ◌||◌, OnTrue, OnFalse, cases_eq, get_or-set_other, get_or-set_same, sum_by-set}
use Rattle.pg_coord_rounds.proofs.Common.{BoundList, MeasureValue, Fits, AtMost, IsBelow, Line, AreWithin, MapValue, measure_at, MapAtMost}
use Rattle.pg_coord_rounds.proofs.Common.{IsClosed, measure_reflexive, map_reflexive, map_transitive, weight, map_weight, measure_falls, IsPassed}
use Rattle.pg_coord_rounds.proofs.Common.{closed_after, CoordinatorMap, Moves, Receives}

pub moves_none : (b : CoordinatorMap) → Moves b b
moves_none b = record {
  bounds = refl;
  size = refl;
  above = map_reflexive b.map.measures;
  stays = λ e. (e, refl);
  weight = omega arith;
  falls = λ e f. let no : false ≡ true = sym e ∙ f in cc;
}

falls_through : (x y z : Bool) (p q r : ℕ) → (y ≡ false → x ≡ false) → q ≤ p → r ≤ q → (x ≡ false → y ≡ true → q < p)
    → (y ≡ false → z ≡ true → r < q) → x ≡ false → z ≡ true → r < p
falls_through x true z p q r k a b f g e h = let i = f e refl in omega arith
falls_through x false z p q r k a b f g e h = let i = g refl h in omega arith

pub moves_more : (a b c : CoordinatorMap) → Moves a b → Moves b c → Moves a c
moves_more a b c m n =
    let less : map_weight a.map.bounds c.map.measures ≤ map_weight a.map.bounds b.map.measures =
    subst (λ (bs : BoundList). map_weight bs c.map.measures ≤ map_weight bs b.map.measures) m.bounds n.weight in
    record {
      bounds = n.bounds ∙ m.bounds;
      size = n.size ∙ m.size;
      above = map_transitive a.map.measures b.map.measures c.map.measures m.above n.above;
      stays = λ e. let i = n.stays e in let j = m.stays i.0 in (j.0, i.1 ∙ j.1);
      weight = let k = m.weight in omega arith;
      falls = λ e f. falls_through a.rose b.rose c.rose (map_weight a.map.bounds a.map.measures) (map_weight a.map.bounds b.map.measures)
          (map_weight a.map.bounds c.map.measures) (λ i. (m.stays i).0) m.weight less m.falls
          (λ i j. subst (λ (bs : BoundList). map_weight bs c.map.measures < map_weight bs b.map.measures) m.bounds (n.falls i j)) e f;
    }

or_false : (a b : Bool) → (a || b) ≡ false → (a ≡ false) × (b ≡ false)
or_false false false e = (refl, refl)
or_false false true e = (refl, e)
or_false true b e = (e, cc)

pub raised_falls : (bs : BoundList) (f g : List MeasureValue) (v : ℕ) (m : MeasureValue) → v < length f → Fits bs m
    → IsBelow (measure_at f v) m → g ≡ set f v m → map_weight bs g < map_weight bs f
raised_falls bs f g v m h fits below is =
    let a = measure_falls bs (measure_at f v) m fits below in
    let b = sum_by-set (weight bs) f v m None h in
    rw is (omega arith)

-- what happened to the map in one step, and whether it rose by that
pub record StepsTo (old new : MapValue) (rose : Bool) : Type 0 where
  pub bounds : new.bounds ≡ old.bounds
  pub size : length new.measures ≡ length old.measures
  pub above : MapAtMost old.measures new.measures
  pub falls : OnTrue rose (map_weight old.bounds new.measures < map_weight old.bounds old.measures)
  pub same : OnFalse rose (new ≡ old)

weight_by : (rose : Bool) (old new : MapValue) → OnTrue rose (map_weight old.bounds new.measures < map_weight old.bounds old.measures)
    → OnFalse rose (new ≡ old) → map_weight old.bounds new.measures ≤ map_weight old.bounds old.measures
weight_by true old new f s = omega (arith, f)
weight_by false old new f s = rw s (omega arith)

falls_by : (before rose : Bool) (P : Type 0) → OnTrue rose P → before ≡ false → (before || rose) ≡ true → P
falls_by true rose P f e i = cc
falls_by false true P f e i = f
falls_by false false P f e i = cc

same_by : (rose : Bool) (P : Type 0) → OnFalse rose P → rose ≡ false → P
same_by true P s e = cc
same_by false P s e = s

pub moves_step : (old new : CoordinatorMap) (rose : Bool) → StepsTo old.map new.map rose → new.rose ≡ (old.rose || rose) → Moves old new
moves_step old new rose s is = record {
  bounds = s.bounds;
  size = s.size;
  above = s.above;
  stays = λ e. let i = or_false old.rose rose (sym is ∙ e) in (i.0, same_by rose (new.map ≡ old.map) s.same i.1);
  weight = weight_by rose old.map new.map s.falls s.same;
  falls = λ e f. falls_by old.rose rose (map_weight old.map.bounds new.map.measures < map_weight old.map.bounds old.map.measures) s.falls e (sym is ∙ f);
}

-- a measure is raised
raise_falls : (rose : Bool) (bs : BoundList) (f g : List MeasureValue) (v : ℕ) (m : MeasureValue) → v < length f → Fits bs m
    → OnTrue rose (IsBelow (measure_at f v) m × (g ≡ set f v m)) → OnTrue rose (map_weight bs g < map_weight bs f)
raise_falls true bs f g v m h fits t = raised_falls bs f g v m h fits t.0 t.1
raise_falls false bs f g v m h fits t = t

pub raise_steps : (old new : MapValue) (rose : Bool) (v : ℕ) (m : MeasureValue) → v < length old.measures → Fits old.bounds m
    → new.bounds ≡ old.bounds → length new.measures ≡ length old.measures → MapAtMost old.measures new.measures
    → OnTrue rose (IsBelow (measure_at old.measures v) m × (new.measures ≡ set old.measures v m)) → OnFalse rose (new ≡ old)
    → StepsTo old new rose
raise_steps old new rose v m h fits bounds size above t s = record {
  bounds = bounds;
  size = size;
  above = above;
  falls = raise_falls rose old.bounds old.measures new.measures v m h fits t;
  same = s;
}

at_most_either : (f h : List MeasureValue) (v u : ℕ) (m : MeasureValue) → v < length f → MapAtMost f h → AtMost m (measure_at h v)
    → (u ≡ v) ⊎ (u ≢ v) → AtMost (measure_at (set f v m) u) (measure_at h u)
at_most_either f h v u m l le k (inl e) = subst (λ (u : ℕ). AtMost (measure_at (set f v m) u) (measure_at h u)) (sym e) (rw (get_or-set_same f v m None l) k)
at_most_either f h v u m l le k (inr n) = rw (get_or-set_other f v u m None n) (le u)

pub raise_least : (old new : MapValue) (rose : Bool) (v : ℕ) (m : MeasureValue) → v < length old.measures
    → OnTrue rose (IsBelow (measure_at old.measures v) m × (new.measures ≡ set old.measures v m)) → OnFalse rose (new ≡ old)
    → (h : List MeasureValue) → MapAtMost old.measures h → AtMost m (measure_at h v) → MapAtMost new.measures h
raise_least old new true v m l t s h le k = rw (t.1) (λ u. at_most_either old.measures h v u m l le k (cases_eq u v))
raise_least old new false v m l t s h le k = rw s le

pub raise_above : (old new : MapValue) (rose : Bool) (v : ℕ) (m : MeasureValue) → v < length old.measures
    → OnTrue rose (IsBelow (measure_at old.measures v) m × (new.measures ≡ set old.measures v m))
    → OnFalse rose (AtMost m (measure_at old.measures v)) → OnFalse rose (new ≡ old) → AtMost m (measure_at new.measures v)
raise_above old new true v m l t k s = rw (t.1, get_or-set_same old.measures v m None l) (measure_reflexive m)
raise_above old new false v m l t k s = rw s k

-- a pass, in which nothing had risen before
pub passed_moves : (lines : ℕ → Option Line) (old new : CoordinatorMap) (n : ℕ) → old.rose ≡ false → IsPassed lines old.map new.map new.rose n → Moves old new
passed_moves lines old new n none p =
    moves_step old new new.rose (record { bounds = p.bounds; size = p.map.size; above = p.above; falls = p.weight; same = p.same })
    (sym (ap (λ b. b || new.rose) none))

closed_same : (lines : ℕ → Option Line) (old new : MapValue) (rose : Bool) → OnFalse rose (new ≡ old)
    → OnFalse rose (IsClosed old.bounds lines old.measures) → rose ≡ false → IsClosed new.bounds lines new.measures
closed_same lines old new true s h e = cc
closed_same lines old new false s h e = rw s h

pub passed_closed : (lines : ℕ → Option Line) (old : MapValue) (new : CoordinatorMap) (count n : ℕ) → IsPassed lines old new.map new.rose n
    → AreWithin count lines → count ≤ n → new.rose ≡ false → IsClosed new.map.bounds lines new.map.measures
passed_closed lines old new count n p within le stays = closed_same lines old new.map new.rose p.same
    (closed_after lines old new.map new.rose count n p within le) stays

-- ---- a reply is received

pub receives_none : {L : Type 0} (is_honest : L → Type 0) (is_under : L → MapValue → Type 0) (old new : L) (f : CoordinatorMap)
    → (is_honest old → is_honest new)
    → (is_honest old → (h : MapValue) → is_under old h → is_under new h) → Receives is_honest is_under old new f f
receives_none is_honest is_under old new f honest under =
    record { honest = honest; under = under; moves = moves_none f; least = λ ho h u le. le }

pub receives_more : {L : Type 0} (is_honest : L → Type 0) (is_under : L → MapValue → Type 0) (old mid new : L) (f g h : CoordinatorMap)
    → Receives is_honest is_under old mid f g → Receives is_honest is_under mid new g h → Receives is_honest is_under old new f h
receives_more is_honest is_under old mid new f g h a b = record {
  honest = λ ho. b.honest (a.honest ho);
  under = λ ho m u. b.under (a.honest ho) m (a.under ho m u);
  moves = moves_more f g h a.moves b.moves;
  least = λ ho m u le. b.least (a.honest ho) m (a.under ho m u) (a.least ho m u le);
}
