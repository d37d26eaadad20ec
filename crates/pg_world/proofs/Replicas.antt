-- What a world keeps of its replicas, event by event.
use Rattle.pg_world.proofs.Common.{◌≡◌, ◌≢◌, ℕ, Bool, true, false, ◌+◌, ◌<◌, ◌≤◌, replicate, List, [], ◌∷◌, ◌++◌, length, get_or, set, refl}
use Rattle.pg_world.proofs.Common.{ap, sym, ◌∙◌, ◌⊎◌, inl, inr, arith, subst, MatchBool, cases_eq, get_or-set_other, get_or-set_same}
use Rattle.pg_world.proofs.Common.{get_or-replicate, get_or_default, length-set, length-replicate, length-append, All-set}
use Rattle.pg_world.proofs.Common.{get_or-append_seam, GameVertex, IsGame, IsBoundsOf, BoundList, MeasureValue, OwnedMeasure, Fits, AtMost}
use Rattle.pg_world.proofs.Common.{IsBelow, zeros, game_line, CutValue, measure_at, IsMap, IsJoin, IsLeastServing, zero_map, NO_UPDATE}
use Rattle.pg_world.proofs.Common.{UpdateValue, update_at, WorldValue, new_world, taken_of, IsMapOf, taking, forgetting, making, IsMade}
use Rattle.pg_world.proofs.Common.{shown, ComeFrom, IsReplica, AreReplicas, LiftsTo, Raises, IsCovered, MapLaws}
use Rattle.pg_world.proofs.Joining.{as_map, one_join, raise_joins, update_under, last_at}
use Rattle.pg_world.proofs.Keeping.{new_is_world, new_map, taking_is_world, making_is_world, forgetting_is_world, map_after_taking}
use Rattle.pg_world.proofs.Keeping.{map_after_making, map_besides_making, map_besides_taking, map_besides_forgetting, map_after_forgetting}
use Rattle.pg_world.proofs.Running.{lift_makes}
use Rattle.pg_world.proofs.Showing.{shown_set, length-shown, shown_longer, nothing_shown, come_from_none, come_from_more, come_from_longer, come_from_set}

abbrev pub count : WorldValue → ℕ
count w = length w.game

-- the numbers of the replica r
abbrev pub greatest_of : List (List ℕ) → ℕ → List ℕ
greatest_of gs r = get_or gs r []

-- the map of the replica r
abbrev pub map_in : WorldValue → List (List ℕ) → ℕ → List MeasureValue
map_in w gs r = shown w.bounds w.updates (greatest_of gs r)

-- the numbers of one replica are replaced
replaced : (w : WorldValue) (gs : List (List ℕ)) (r k : ℕ) (g : List ℕ) → r < length gs → IsReplica w r g
    → ((q : ℕ) → q ≢ r → q ≤ k → IsReplica w q (greatest_of gs q)) → (q : ℕ) → q ≤ k → IsReplica w q (greatest_of (set gs r g) q)
replaced w gs r k g l here others q within = at (cases_eq q r)
  where
    at : (q ≡ r) ⊎ (q ≢ r) → IsReplica w q (greatest_of (set gs r g) q)
    at (inl e) = rw (e, get_or-set_same gs r g [] l) here
    at (inr ne) = rw (get_or-set_other gs r q g [] ne) (others q ne within)

pub greatest_size : (w : WorldValue) (z : OwnedMeasure) (gs : List (List ℕ)) (r : ℕ) → AreReplicas w z gs → r ≤ w.cut.workers
    → length (greatest_of gs r) ≡ count w
greatest_size w z gs r i l = sym (length-shown w.bounds w.updates (greatest_of gs r)) ∙ (i.each r l).map.map.size

-- an update that was made stands for one of the game, within the bounds
pub made_at : (w : WorldValue) (z : OwnedMeasure) (gs : List (List ℕ)) (n : ℕ) → AreReplicas w z gs → n < length w.updates
    → IsMade w.bounds (game_line w.game) (count w) (update_at w.bounds w.updates n)
made_at w z gs n i l = i.world.made n (record { vertex = 0; measure = zeros w.bounds }) l

-- a map with a greater measure in its place
raised_map : (bs : BoundList) (n : ℕ) (f : List MeasureValue) (v : ℕ) (m : MeasureValue) → IsMap bs n f → Fits bs m → IsMap bs n (set f v m)
raised_map bs n f v m i fits = record { size = length-set f v m ∙ i.size; fits = All-set (Fits bs) f v m fits i.fits }

-- ---- an update is taken

taken_others : (w : WorldValue) (z : OwnedMeasure) (gs : List (List ℕ)) (r n q : ℕ) → AreReplicas w z gs → q ≢ r → q ≤ w.cut.workers
    → IsReplica (taking w r n) q (greatest_of gs q)
taken_others w z gs r n q i ne l = let x = i.each q l in record {
  map = map_besides_taking w r q n (map_in w gs q) ne x.map;
  from = subst (λ (t : List ℕ). ComeFrom w.updates t (greatest_of gs q)) (sym (get_or-set_other w.taken r q (taken_of w r ++ n ∷ []) [] ne)) x.from;
}

taken_now : (w : WorldValue) (z : OwnedMeasure) (gs : List (List ℕ)) (r n : ℕ) → AreReplicas w z gs → r ≤ w.cut.workers
    → taken_of (taking w r n) r ≡ taken_of w r ++ n ∷ []
taken_now w z gs r n i l = let within : r < length w.taken = omega (arith, i.world.size) in get_or-set_same w.taken r (taken_of w r ++ n ∷ []) [] within

-- and is above what was there
pub takes_rising : MapLaws → (w : WorldValue) (z : OwnedMeasure) (gs : List (List ℕ)) (r n : ℕ) → AreReplicas w z gs → r ≤ w.cut.workers
    → n < length w.updates
    → IsBelow (measure_at (map_in w gs r) (update_at w.bounds w.updates n).vertex) (update_at w.bounds w.updates n).measure
    → AreReplicas (taking w r n) z (set gs r (set (greatest_of gs r) (update_at w.bounds w.updates n).vertex n))
takes_rising laws w z gs r n i l below rises = record {
  world = taking_is_world w r n i.world below;
  cut = i.cut;
  zero_is = i.zero_is;
  few = i.few;
  count = length-set gs r g ∙ i.count;
  each = replaced (taking w r n) gs r w.cut.workers g (omega (arith, i.count)) here (λ q ne lq. taken_others w z gs r n q i ne lq);
}
  where
    u : UpdateValue
    u = update_at w.bounds w.updates n

    g : List ℕ
    g = set (greatest_of gs r) (update_at w.bounds w.updates n).vertex n

    made : IsMade w.bounds (game_line w.game) (count w) (update_at w.bounds w.updates n)
    made = made_at w z gs n i below

    was : IsReplica w r (greatest_of gs r)
    was = i.each r l

    new_map : IsMapOf (taking w r n) r (set (map_in w gs r) (update_at w.bounds w.updates n).vertex (update_at w.bounds w.updates n).measure)
    new_map = map_after_taking w r n (map_in w gs r) (set (map_in w gs r) (update_at w.bounds w.updates n).vertex
        (update_at w.bounds w.updates n).measure) i.world l was.map
        (raised_map w.bounds (count w) (map_in w gs r) (update_at w.bounds w.updates n).vertex (update_at w.bounds w.updates n).measure was.map.map made.fits)
        (raise_joins laws.order laws.zero w.bounds (count w) (map_in w gs r) (update_at w.bounds w.updates n).vertex
        (update_at w.bounds w.updates n).measure was.map.map made.fits made.within rises)

    own : (d : UpdateValue) → (get_or w.updates n d).vertex ≡ (update_at w.bounds w.updates n).vertex
    own d = ap (λ (x : UpdateValue). x.vertex) (get_or_default w.updates n d (record { vertex = 0; measure = zeros w.bounds }) below)

    within : (update_at w.bounds w.updates n).vertex < length (greatest_of gs r)
    within = omega (arith, made.within, greatest_size w z gs r i l)

    here : IsReplica (taking w r n) r (set (greatest_of gs r) (update_at w.bounds w.updates n).vertex n)
    here = record {
      map = subst (IsMapOf (taking w r n) r) (sym (shown_set w.bounds w.updates (greatest_of gs r) (update_at w.bounds w.updates n).vertex n)) new_map;
      from = subst (λ (t : List ℕ). ComeFrom w.updates t (set (greatest_of gs r) (update_at w.bounds w.updates n).vertex n))
          (sym (taken_now w z gs r n i l)) (come_from_set w.updates (taken_of w r) (greatest_of gs r)
          (update_at w.bounds w.updates n).vertex n own within was.from);
    }

-- and is at most what was there
pub takes_covered : MapLaws → (w : WorldValue) (z : OwnedMeasure) (gs : List (List ℕ)) (r n : ℕ) → AreReplicas w z gs → r ≤ w.cut.workers
    → n < length w.updates
    → AtMost (update_at w.bounds w.updates n).measure (measure_at (map_in w gs r) (update_at w.bounds w.updates n).vertex)
    → AreReplicas (taking w r n) z gs
takes_covered laws w z gs r n i l below covered = record {
  world = taking_is_world w r n i.world below;
  cut = i.cut;
  zero_is = i.zero_is;
  few = i.few;
  count = i.count;
  each = λ q lq. at q lq (cases_eq q r);
}
  where
    made : IsMade w.bounds (game_line w.game) (count w) (update_at w.bounds w.updates n)
    made = made_at w z gs n i below

    was : IsReplica w r (greatest_of gs r)
    was = i.each r l

    joins : IsJoin (map_in w gs r) (as_map w.bounds (count w) w.updates n) (map_in w gs r)
    joins = record {
      first = λ v. laws.order.reflexive (measure_at (map_in w gs r) v);
      second = update_under laws.zero w.bounds (count w) (update_at w.bounds w.updates n).vertex (update_at w.bounds w.updates n).measure
          (map_in w gs r) made.within was.map.map covered;
      least = λ k p q. p;
    }

    here : IsReplica (taking w r n) r (greatest_of gs r)
    here = record {
      map = map_after_taking w r n (map_in w gs r) (map_in w gs r) i.world l was.map was.map.map joins;
      from = subst (λ (t : List ℕ). ComeFrom w.updates t (greatest_of gs r)) (sym (taken_now w z gs r n i l))
          (come_from_more w.updates (taken_of w r) (greatest_of gs r) n was.from);
    }

    at : (q : ℕ) → q ≤ w.cut.workers → (q ≡ r) ⊎ (q ≢ r) → IsReplica (taking w r n) q (greatest_of gs q)
    at q lq (inl e) = subst (λ (x : ℕ). IsReplica (taking w r n) x (greatest_of gs x)) (sym e) here
    at q lq (inr ne) = taken_others w z gs r n q i ne lq

-- ---- an update is made

made_others : (w : WorldValue) (z : OwnedMeasure) (gs : List (List ℕ)) (r q : ℕ) (u : UpdateValue) → AreReplicas w z gs
    → length w.updates < NO_UPDATE → q ≢ r → q ≤ w.cut.workers → IsReplica (making w r u) q (greatest_of gs q)
made_others w z gs r q u i few ne l = let x = i.each q l in record {
  map = subst (IsMapOf (making w r u) q)
      (sym (shown_longer w.bounds w.updates u (taken_of w q) (greatest_of gs q) few (i.world.taken q) x.from))
      (map_besides_making w r q u (map_in w gs q) i.world ne x.map);
  from = subst (λ (t : List ℕ). ComeFrom (w.updates ++ u ∷ []) t (greatest_of gs q))
      (sym (get_or-set_other w.taken r q (taken_of w r ++ length w.updates ∷ []) [] ne))
      (come_from_longer w.updates u (taken_of w q) (greatest_of gs q) (i.world.taken q) x.from);
}

pub makes : MapLaws → (w : WorldValue) (z : OwnedMeasure) (gs : List (List ℕ)) (r : ℕ) (u : UpdateValue) → AreReplicas w z gs
    → r ≤ w.cut.workers → length w.updates < NO_UPDATE → u.vertex < count w → LiftsTo w r u
    → AreReplicas (making w r u) z (set gs r (set (greatest_of gs r) u.vertex (length w.updates)))
makes laws w z gs r u i l few lv lifts = record {
  world = making_is_world w r u i.world made;
  cut = i.cut;
  zero_is = i.zero_is;
  few = omega (arith, length-append w.updates (u ∷ []));
  count = length-set gs r (set (greatest_of gs r) u.vertex (length w.updates)) ∙ i.count;
  each = replaced (making w r u) gs r w.cut.workers (set (greatest_of gs r) u.vertex (length w.updates)) (omega (arith, i.count)) here
      (λ q ne lq. made_others w z gs r q u i few ne lq);
}
  where
    was : IsReplica w r (greatest_of gs r)
    was = i.each r l

    lift : IsLeastServing w.bounds (game_line w.game) (map_in w gs r) u.vertex u.measure × IsBelow (measure_at (map_in w gs r) u.vertex) u.measure
    lift = lifts (map_in w gs r) was.map

    made : IsMade w.bounds (game_line w.game) (count w) u
    made = lift_makes laws w r u.vertex (map_in w gs r) u.measure i.world lv was.map lift.0 lift.1

    new_map : IsMapOf (making w r u) r (set (map_in w gs r) u.vertex u.measure)
    new_map = map_after_making w r u (map_in w gs r) (set (map_in w gs r) u.vertex u.measure) i.world l was.map
        (raised_map w.bounds (count w) (map_in w gs r) u.vertex u.measure was.map.map made.fits)
        (raise_joins laws.order laws.zero w.bounds (count w) (map_in w gs r) u.vertex u.measure was.map.map made.fits lv lift.1)

    shows : shown w.bounds (w.updates ++ u ∷ []) (set (greatest_of gs r) u.vertex (length w.updates)) ≡ set (map_in w gs r) u.vertex u.measure
    shows = shown_set w.bounds (w.updates ++ u ∷ []) (greatest_of gs r) u.vertex (length w.updates)
        ∙ (ap (λ (m : MeasureValue). set (shown w.bounds (w.updates ++ u ∷ []) (greatest_of gs r)) u.vertex m)
        (ap (λ (x : UpdateValue). x.measure) (last_at w.bounds w.updates u))
        ∙ ap (λ (f : List MeasureValue). set f u.vertex u.measure) (shown_longer w.bounds w.updates u (taken_of w r) (greatest_of gs r) few
        (i.world.taken r) was.from))

    own : (d : UpdateValue) → (get_or (w.updates ++ u ∷ []) (length w.updates) d).vertex ≡ u.vertex
    own d = ap (λ (x : UpdateValue). x.vertex) (get_or-append_seam w.updates u [] d)

    within : u.vertex < length (greatest_of gs r)
    within = omega (arith, greatest_size w z gs r i l)

    taken : taken_of (making w r u) r ≡ taken_of w r ++ length w.updates ∷ []
    taken = let inside : r < length w.taken = omega (arith, i.world.size) in get_or-set_same w.taken r (taken_of w r ++ length w.updates ∷ []) [] inside

    here : IsReplica (making w r u) r (set (greatest_of gs r) u.vertex (length w.updates))
    here = record {
      map = subst (IsMapOf (making w r u) r) (sym shows) new_map;
      from = subst (λ (t : List ℕ). ComeFrom (w.updates ++ u ∷ []) t (set (greatest_of gs r) u.vertex (length w.updates))) (sym taken)
          (come_from_set (w.updates ++ u ∷ []) (taken_of w r) (greatest_of gs r) u.vertex (length w.updates) own within
          (come_from_longer w.updates u (taken_of w r) (greatest_of gs r) (i.world.taken r) was.from));
    }

-- ---- a replica starts anew

pub forgets : MapLaws → (w : WorldValue) (z : OwnedMeasure) (gs : List (List ℕ)) (r : ℕ) → AreReplicas w z gs → r ≤ w.cut.workers
    → AreReplicas (forgetting w r) z (set gs r (replicate (length (greatest_of gs r)) NO_UPDATE))
forgets laws w z gs r i l = record {
  world = forgetting_is_world w r i.world;
  cut = i.cut;
  zero_is = i.zero_is;
  few = i.few;
  count = length-set gs r g ∙ i.count;
  each = replaced (forgetting w r) gs r w.cut.workers g (omega (arith, i.count)) here others;
}
  where
    g : List ℕ
    g = replicate (length (greatest_of gs r)) NO_UPDATE

    zeros_there : shown w.bounds w.updates (replicate (length (greatest_of gs r)) NO_UPDATE) ≡ zero_map w.bounds (count w)
    zeros_there = nothing_shown w.bounds w.updates (length (greatest_of gs r)) i.few ∙ ap (zero_map w.bounds) (greatest_size w z gs r i l)

    here : IsReplica (forgetting w r) r (replicate (length (greatest_of gs r)) NO_UPDATE)
    here = record {
      map = subst (IsMapOf (forgetting w r) r) (sym zeros_there) (map_after_forgetting laws.zero w r i.world l);
      from = come_from_none w.updates (taken_of (forgetting w r) r) (length (greatest_of gs r));
    }

    others : (q : ℕ) → q ≢ r → q ≤ w.cut.workers → IsReplica (forgetting w r) q (greatest_of gs q)
    others q ne lq = let x = i.each q lq in record {
      map = map_besides_forgetting w r q (map_in w gs q) ne x.map;
      from = subst (λ (t : List ℕ). ComeFrom w.updates t (greatest_of gs q)) (sym (get_or-set_other w.taken r q [] [] ne)) x.from;
    }

-- ---- a new world

pub new_replicas : MapLaws → (game : List GameVertex) (bounds : BoundList) (cut : CutValue) (z : OwnedMeasure) → IsGame game
    → IsBoundsOf game bounds → length cut.numbers ≡ length game → z.value ≡ zeros bounds
    → AreReplicas (new_world game bounds cut) z (replicate (1 + cut.workers) (replicate (length game) NO_UPDATE))
new_replicas laws game bounds cut z g b size zero = record {
  world = new_is_world game bounds cut g b;
  cut = size;
  zero_is = zero;
  few = omega arith;
  count = length-replicate (1 + cut.workers) (replicate (length game) NO_UPDATE);
  each = λ r l. (let within : r < 1 + cut.workers = omega arith in
      subst (IsReplica (new_world game bounds cut) r)
      (sym (get_or-replicate {A = List ℕ} (1 + cut.workers) r (replicate (length game) NO_UPDATE) [] within)) (record {
        map = subst (IsMapOf (new_world game bounds cut) r) (sym (nothing_shown bounds [] (length game) (omega arith))) (new_map laws.zero game bounds cut r l);
        from = come_from_none [] (taken_of (new_world game bounds cut) r) (length game);
      }));
}

-- ---- the map of a replica

-- a replica has one map
pub map_is : (w : WorldValue) (r : ℕ) (f g : List MeasureValue) → IsMapOf w r f → IsMapOf w r g → f ≡ g
map_is w r f g i j = one_join w.bounds (length w.game) w.updates w.updates (taken_of w r) (taken_of w r) f g (λ n k. (n, k, refl)) (λ n k. (n, k, refl)) i j

-- what a replica lends is its map, of the game's size
pub map_lent : (w o : WorldValue) (z : OwnedMeasure) (gs : List (List ℕ)) (r : ℕ) (g : List ℕ) → w ≡ o → AreReplicas w z gs
    → r ≤ o.cut.workers → greatest_of gs r ≡ g → IsMapOf o r (shown w.bounds w.updates g) × (length g ≡ length o.game)
map_lent w o z gs r g same i l e =
    let few : r ≤ w.cut.workers = subst (λ (x : WorldValue). r ≤ x.cut.workers) (sym same) l in (
      subst (λ (x : WorldValue). IsMapOf x r (shown w.bounds w.updates g)) same
          (subst (λ (x : List ℕ). IsMapOf w r (shown w.bounds w.updates x)) e (i.each r few).map),
      subst (λ (x : WorldValue). length g ≡ length x.game) same (subst (λ (x : List ℕ). length x ≡ length w.game) e (greatest_size w z gs r i few)),
    )

-- what is said of a lift in one map of a replica is said of it in each, for there is one
pub lifts_to : (w : WorldValue) (r : ℕ) (f : List MeasureValue) (bs : BoundList) (game : List GameVertex) (v : ℕ) (m : MeasureValue)
    → IsMapOf w r f → bs ≡ w.bounds → game ≡ w.game → IsLeastServing bs (game_line game) f v m → IsBelow (measure_at f v) m
    → LiftsTo w r (record { vertex = v; measure = m })
lifts_to w r f bs game v m i eb eg least below = λ g j.
    let least' : IsLeastServing w.bounds (game_line w.game) f v m = subst (λ (b : BoundList). IsLeastServing b (game_line w.game) f v m) eb
    (subst (λ (x : List GameVertex). IsLeastServing bs (game_line x) f v m) eg least) in
    subst (λ (h : List MeasureValue). IsLeastServing w.bounds (game_line w.game) h v m × IsBelow (measure_at h v) m) (map_is w r f g i j) (least', below)

-- and so is what is said of an update
pub raises_or : (w : WorldValue) (r : ℕ) (f : List MeasureValue) (b : Bool) (u : UpdateValue) → IsMapOf w r f
    → MatchBool b (IsBelow (measure_at f u.vertex) u.measure) (AtMost u.measure (measure_at f u.vertex))
    → MatchBool b (Raises w r u) (IsCovered w r u)
raises_or w r f true u i h = λ g j. subst (λ (x : List MeasureValue). IsBelow (measure_at x u.vertex) u.measure) (map_is w r f g i j) h
raises_or w r f false u i h = λ g j. subst (λ (x : List MeasureValue). AtMost u.measure (measure_at x u.vertex)) (map_is w r f g i j) h
