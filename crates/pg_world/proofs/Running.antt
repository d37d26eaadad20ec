-- What is true of a world after any list of events.
use Rattle.pg_world.proofs.Common.{◌≡◌, ◌≢◌, ℕ, ◌+◌, ◌<◌, ◌≤◌, None, List, [], ◌∷◌, ◌++◌, length, get_or, set, take, refl, ap, sym, ◌∙◌}
use Rattle.pg_world.proofs.Common.{◌⊎◌, inl, inr, arith, subst, All, Option, IsSome, cases_eq, get_or-set_same, length-set, take_more}
use Rattle.pg_world.proofs.Common.{All-head, All-tail, All-set, GameVertex, IsGame, BoundList, MeasureValue, Fits, zeros, AtMost, IsBelow}
use Rattle.pg_world.proofs.Common.{IsBoundsOf, Line, game_line, measure_at, IsMap, zero_map, MapAtMost, IsClosed, IsNeverAbove, IsJoin}
use Rattle.pg_world.proofs.Common.{IsLifted, IsLeastServing, CutValue, Event, Lift, Deliver, Restart, CoordinatorLift, UpdateValue}
use Rattle.pg_world.proofs.Common.{update_at, map_of_update, WorldValue, new_world, taken_of, IsMapOf, taking, forgetting, making, Lifts}
use Rattle.pg_world.proofs.Common.{Steps, refusal, IsEventOf, Runs, IsMade, IsWorld, MapLaws}
use Rattle.pg_world.proofs.Joining.{update_under, raise_joins}
use Rattle.pg_world.proofs.Keeping.{new_map, new_is_world, taking_is_world, making_is_world, forgetting_is_world, map_after_taking}
use Rattle.pg_world.proofs.Keeping.{map_after_making, map_besides_making, map_besides_taking, map_besides_forgetting, map_after_forgetting}
use Rattle.pg_world.proofs.Refusing.{delivers, lifts, restarts}

-- the map of a replica is at most each closed map
pub map_never_above : MapLaws → (w : WorldValue) (r : ℕ) (f : List MeasureValue) → IsWorld w → IsMapOf w r f
    → IsNeverAbove w.bounds (game_line w.game) f
map_never_above laws w r f i j = λ h m c.
    let size : length h ≡ length w.game = m.size ∙ j.map.size in
    let map : IsMap w.bounds (length w.game) h = record { size = size; fits = m.fits } in
    j.least h map (λ k d l. under h map c (get_or (taken_of w r) k d) (i.taken r k d l))
  where
    under : (h : List MeasureValue) → IsMap w.bounds (length w.game) h → IsClosed w.bounds (game_line w.game) h → (n : ℕ)
        → n < length w.updates → MapAtMost (map_of_update w.bounds (length w.game) (update_at w.bounds w.updates n)) h
    under h map c n l =
        let u : UpdateValue = update_at w.bounds w.updates n in
        let made : IsMade w.bounds (game_line w.game) (length w.game) u = i.made n (record { vertex = 0; measure = zeros w.bounds }) l in
        update_under laws.zero w.bounds (length w.game) u.vertex u.measure h made.within map (made.under h map c)

-- the map with the least serving measure in its place is a lift
pub as_lift : (bs : BoundList) (lines : ℕ → Option Line) (n : ℕ) (f : List MeasureValue) (v : ℕ) (m : MeasureValue) → IsMap bs n f → v < n
    → IsLeastServing bs lines f v m → IsBelow (measure_at f v) m → IsLifted bs lines f (set f v m) v
as_lift bs lines n f v m w l least below =
    let size : length f ≡ n = w.size in
    let within : v < length f = omega arith in
    let here : measure_at (set f v m) v ≡ m = get_or-set_same f v m None within in
    record {
      least = subst (λ (x : MeasureValue). IsLeastServing bs lines f v x) (sym here) least;
      above = subst (λ (x : MeasureValue). IsBelow (measure_at f v) x) (sym here) below;
      others = ap (λ (x : MeasureValue). set f v x) (sym here);
    }

-- what a lift makes is at most that of each closed map
pub lift_makes : MapLaws → (w : WorldValue) (r v : ℕ) (f : List MeasureValue) (m : MeasureValue) → IsWorld w → v < length w.game
    → IsMapOf w r f → IsLeastServing w.bounds (game_line w.game) f v m → IsBelow (measure_at f v) m
    → IsMade w.bounds (game_line w.game) (length w.game) (record { vertex = v; measure = m })
lift_makes laws w r v f m i l j least below = record {
  within = l;
  fits = least.fits;
  under = λ h map c. under h map c;
}
  where
    lift : IsLifted w.bounds (game_line w.game) f (set f v m) v
    lift = as_lift w.bounds (game_line w.game) (length w.game) f v m j.map l least below

    here : measure_at (set f v m) v ≡ m
    here = let size : length f ≡ length w.game = j.map.size in let within : v < length f = omega arith in get_or-set_same f v m None within

    under : (h : List MeasureValue) → IsMap w.bounds (length w.game) h → IsClosed w.bounds (game_line w.game) h → AtMost m (measure_at h v)
    under h map c =
        let held : IsSome (game_line w.game v) = ((laws.lines w.game i.game).1) v l in
        let mine : IsMap w.bounds (length f) h = record { size = map.size ∙ sym j.map.size; fits = map.fits } in
        let below_h = ((laws.under w.bounds (game_line w.game) f (set f v m) v held lift).0) h mine c (map_never_above laws w r f i j h mine c) in
        subst (λ (x : MeasureValue). AtMost x (measure_at h v)) here (below_h v)

-- each replica has a map
abbrev pub HasMaps : WorldValue → Type 0
HasMaps w = (r : ℕ) → r ≤ w.cut.workers → (f : List MeasureValue) × IsMapOf w r f

-- what is kept of game, bounds and cut
pub record Keeps (game : List GameVertex) (bounds : BoundList) (cut : CutValue) (w : WorldValue) : Type 0 where
  pub game_is : w.game ≡ game
  pub bounds_is : w.bounds ≡ bounds
  pub cut_is : w.cut ≡ cut
  pub world : IsWorld w
  pub maps : HasMaps w

-- a join of a map and a measure at one vertex
join_at : MapLaws → (bs : BoundList) (n : ℕ) (f : List MeasureValue) (u : UpdateValue) → IsMap bs n f → u.vertex < n → Fits bs u.measure
    → (g : List MeasureValue) × IsMap bs n g × IsJoin f (map_of_update bs n u) g
join_at laws bs n f u w l fits = either (laws.order.total (measure_at f u.vertex) u.measure)
  where
    either : IsBelow (measure_at f u.vertex) u.measure ⊎ AtMost u.measure (measure_at f u.vertex)
        → (g : List MeasureValue) × IsMap bs n g × IsJoin f (map_of_update bs n u) g
    either (inl below) = (
      set f u.vertex u.measure,
      record {
        size = length-set f u.vertex u.measure ∙ w.size;
        fits = All-set (Fits bs) f u.vertex u.measure fits w.fits;
      },
      raise_joins laws.order laws.zero bs n f u.vertex u.measure w fits l below,
    )
    either (inr most) = (
      f,
      w,
      record {
        first = λ v. laws.order.reflexive (measure_at f v);
        second = update_under laws.zero bs n u.vertex u.measure f l w most;
        least = λ k p q. p;
      },
    )

deliver_keeps : MapLaws → (game : List GameVertex) (bounds : BoundList) (cut : CutValue) (w : WorldValue) (r n : ℕ)
    → Keeps game bounds cut w
    → r ≤ w.cut.workers → n < length w.updates → Keeps game bounds cut (taking w r n)
deliver_keeps laws game bounds cut w r n k l below = record {
  game_is = k.game_is;
  bounds_is = k.bounds_is;
  cut_is = k.cut_is;
  world = taking_is_world w r n k.world below;
  maps = λ q within. at q within (cases_eq q r);
}
  where
    made : IsMade w.bounds (game_line w.game) (length w.game) (update_at w.bounds w.updates n)
    made = k.world.made n (record { vertex = 0; measure = zeros w.bounds }) below

    here : (f : List MeasureValue) × IsMapOf (taking w r n) r f
    here =
        let f = k.maps r l in
        let g = join_at laws w.bounds (length w.game) f.0 (update_at w.bounds w.updates n) (f.1.map) made.within made.fits in
        (g.0, map_after_taking w r n f.0 g.0 k.world l f.1 g.1 g.2)

    at : (q : ℕ) → q ≤ w.cut.workers → (q ≡ r) ⊎ (q ≢ r) → (f : List MeasureValue) × IsMapOf (taking w r n) q f
    at q within (inl e) = subst (λ (x : ℕ). (f : List MeasureValue) × IsMapOf (taking w r n) x f) (sym e) here
    at q within (inr ne) = let f = k.maps q within in (f.0, map_besides_taking w r q n f.0 ne f.1)

restart_keeps : MapLaws → (game : List GameVertex) (bounds : BoundList) (cut : CutValue) (w : WorldValue) (r : ℕ) → Keeps game bounds cut w
    → r ≤ w.cut.workers → Keeps game bounds cut (forgetting w r)
restart_keeps laws game bounds cut w r k l = record {
  game_is = k.game_is;
  bounds_is = k.bounds_is;
  cut_is = k.cut_is;
  world = forgetting_is_world w r k.world;
  maps = λ q within. at q within (cases_eq q r);
}
  where
    at : (q : ℕ) → q ≤ w.cut.workers → (q ≡ r) ⊎ (q ≢ r) → (f : List MeasureValue) × IsMapOf (forgetting w r) q f
    at q within (inl e) = subst (λ (x : ℕ). (f : List MeasureValue) × IsMapOf (forgetting w r) x f) (sym e)
        (zero_map w.bounds (length w.game), map_after_forgetting laws.zero w r k.world l)
    at q within (inr ne) = let f = k.maps q within in (f.0, map_besides_forgetting w r q f.0 ne f.1)

make_keeps : MapLaws
    → (game : List GameVertex) (bounds : BoundList) (cut : CutValue) (w : WorldValue) (r v : ℕ) (f : List MeasureValue) (m : MeasureValue)
    → Keeps game bounds cut w → r ≤ w.cut.workers → v < length w.game → IsMapOf w r f → IsLeastServing w.bounds (game_line w.game) f v m
    → IsBelow (measure_at f v) m → Keeps game bounds cut (making w r (record { vertex = v; measure = m }))
make_keeps laws game bounds cut w r v f m k l lv j least below = record {
  game_is = k.game_is;
  bounds_is = k.bounds_is;
  cut_is = k.cut_is;
  world = making_is_world w r u k.world made;
  maps = λ q within. at q within (cases_eq q r);
}
  where
    u : UpdateValue
    u = record { vertex = v; measure = m }

    made : IsMade w.bounds (game_line w.game) (length w.game) (record { vertex = v; measure = m })
    made = lift_makes laws w r v f m k.world lv j least below

    here : (g : List MeasureValue) × IsMapOf (making w r (record { vertex = v; measure = m })) r g
    here =
        let g = join_at laws w.bounds (length w.game) f (record { vertex = v; measure = m }) j.map made.within made.fits in
        (g.0, map_after_making w r (record { vertex = v; measure = m }) f g.0 k.world l j g.1 g.2)

    at : (q : ℕ) → q ≤ w.cut.workers → (q ≡ r) ⊎ (q ≢ r) → (g : List MeasureValue) × IsMapOf (making w r (record { vertex = v; measure = m })) q g
    at q within (inl e) = subst (λ (x : ℕ). (g : List MeasureValue) × IsMapOf (making w r (record { vertex = v; measure = m })) x g) (sym e) here
    at q within (inr ne) = let g = k.maps q within in (g.0, map_besides_making w r q (record { vertex = v; measure = m }) g.0 k.world ne g.1)

lift_keeps : MapLaws → (game : List GameVertex) (bounds : BoundList) (cut : CutValue) (w new : WorldValue) (r v : ℕ)
    → Keeps game bounds cut w
    → r ≤ w.cut.workers → v < length w.game → Lifts w r v new → Keeps game bounds cut new
lift_keeps laws game bounds cut w new r v k l lv (f, j, inl same) = subst (Keeps game bounds cut) (sym same.1) k
lift_keeps laws game bounds cut w new r v k l lv (f, j, inr made) =
    subst (Keeps game bounds cut) (sym made.3) (make_keeps laws game bounds cut w r v f made.0 k l lv j made.1 made.2)

event_keeps : MapLaws → (game : List GameVertex) (bounds : BoundList) (cut : CutValue) (w new : WorldValue) (e : Event)
    → Keeps game bounds cut w → IsEventOf w.game e → refusal w e ≡ None → Steps w e new → Keeps game bounds cut new
event_keeps laws game bounds cut w new (Lift r v) k l h s = let t = lifts w r v h in lift_keeps laws game bounds cut w new r v k t.1 l s
event_keeps laws game bounds cut w new (Deliver r n) k l h s = let t = delivers w r n h in
    subst (Keeps game bounds cut) (sym s) (deliver_keeps laws game bounds cut w r n k t.0 t.1)
event_keeps laws game bounds cut w new (Restart r) k l h s = let t = restarts w r h in
    subst (Keeps game bounds cut) (sym s) (restart_keeps laws game bounds cut w r k t.1)
event_keeps laws game bounds cut w new (CoordinatorLift v) k l h s = lift_keeps laws game bounds cut w new 0 v k (omega arith) l s

events_keep : MapLaws → (game : List GameVertex) (bounds : BoundList) (cut : CutValue) (w new : WorldValue) (es : List Event)
    → Keeps game bounds cut w → All (IsEventOf game) es → Runs w es new → Keeps game bounds cut new
events_keep laws game bounds cut w new [] k a s = subst (Keeps game bounds cut) (sym s) k
events_keep laws game bounds cut w new (e ∷ es) k a s =
    let first : IsEventOf w.game e = subst (λ (g : List GameVertex). IsEventOf g e) (sym k.game_is) (All-head (IsEventOf game) e es a) in
    events_keep laws game bounds cut s.0 new es (event_keeps laws game bounds cut w s.0 e k first s.1 s.2) (All-tail (IsEventOf game) e es a) s.3

pub new_keeps : MapLaws → (game : List GameVertex) (bounds : BoundList) (cut : CutValue) → IsGame game → IsBoundsOf game bounds
    → Keeps game bounds cut (new_world game bounds cut)
new_keeps laws game bounds cut g b = record {
  game_is = refl;
  bounds_is = refl;
  cut_is = refl;
  world = new_is_world game bounds cut g b;
  maps = λ r l. (zero_map bounds (length game), new_map laws.zero game bounds cut r l);
}

-- each replica has a map after any events, and that is never above
pub runs_never_above : MapLaws → (game : List GameVertex) (bounds : BoundList) (cut : CutValue) (es : List Event) (w : WorldValue) (r : ℕ)
    → IsGame game → IsBoundsOf game bounds → All (IsEventOf game) es → r ≤ cut.workers → Runs (new_world game bounds cut) es w
    → (f : List MeasureValue) × IsMapOf w r f × IsNeverAbove bounds (game_line game) f
runs_never_above laws game bounds cut es w r g b a l s =
    let k = events_keep laws game bounds cut (new_world game bounds cut) w es (new_keeps laws game bounds cut g b) a s in
    let within : r ≤ w.cut.workers = subst (λ (x : CutValue). r ≤ x.workers) (sym k.cut_is) l in
    let f = k.maps r within in (
      f.0,
      f.1,
      subst (λ (x : BoundList). IsNeverAbove x (game_line game) f.0) k.bounds_is
          (subst (λ (x : List GameVertex). IsNeverAbove w.bounds (game_line x) f.0) k.game_is (map_never_above laws w r f.0 k.world f.1)),
    )

lift_game : (w new : WorldValue) (r v : ℕ) → Lifts w r v new → new.game ≡ w.game
lift_game w new r v (f, j, inl same) = ap (λ (x : WorldValue). x.game) same.1
lift_game w new r v (f, j, inr made) = ap (λ (x : WorldValue). x.game) made.3

-- events don't change the game
step_game : (w new : WorldValue) (e : Event) → Steps w e new → new.game ≡ w.game
step_game w new (Lift r v) s = lift_game w new r v s
step_game w new (Deliver r n) s = ap (λ (x : WorldValue). x.game) s
step_game w new (Restart r) s = ap (λ (x : WorldValue). x.game) s
step_game w new (CoordinatorLift v) s = lift_game w new 0 v s

-- what is kept while events happen
pub record HasRun (old new : WorldValue) (events : List Event) : Type 0 where
  pub runs : Runs old events new
  pub game : new.game ≡ old.game

one_more : (old mid new : WorldValue) (es : List Event) (e : Event) → Runs old es mid → refusal mid e ≡ None → Steps mid e new → Runs old (es ++ e ∷ []) new
one_more old mid new [] e s h t = (new, subst (λ (x : WorldValue). refusal x e ≡ None) s h, subst (λ (x : WorldValue). Steps x e new) s t, refl)
one_more old mid new (x ∷ es) e s h t = (s.0, s.1, s.2, one_more s.0 mid new es e s.3 h t)

pub runs_more : (old mid new : WorldValue) (es : List Event) (i : ℕ) (e d : Event) → HasRun old mid (take i es) → i < length es
    → e ≡ get_or es i d → refusal mid e ≡ None → Steps mid e new → HasRun old new (take (i + 1) es)
runs_more old mid new es i e d k l here h t = record {
  runs = subst (λ (xs : List Event). Runs old xs new) (sym (take_more es i d l ∙ ap (λ (x : Event). take i es ++ x ∷ []) (sym here)))
      (one_more old mid new (take i es) e k.runs h t);
  game = step_game mid new e t ∙ k.game;
}
