-- An input has one world after the events of its script, or one event that is refused.
use Rattle.pg_cli_command.proofs.Common.{◌≡◌, ◌≢◌, ℕ, zero, suc, ◌<◌, ◌≤◌, List, [], ◌∷◌, length, take, get_or, Option, Some, None, refl, sym}
use Rattle.pg_cli_command.proofs.Common.{ap, ap₂, subst, inl, inr, ◌∙◌, arith, All, slice_get, same_lists, get_or_default, GameVertex}
use Rattle.pg_cli_command.proofs.Common.{BoundList, MeasureValue, IsBelow, IsBoundsOf, OrderIsTotal, OneListOfBounds, game_line, measure_at}
use Rattle.pg_cli_command.proofs.Common.{IsServed, IsLeastServing, fits_at, IsGameText, SpellsOneGame, CutValue, AreTakenToo, SameTaken}
use Rattle.pg_cli_command.proofs.Common.{SpellsOneScript, IsScriptText, UpdateValue, WorldValue, new_world, taken_of, making, IsMapOf, LiftsIn}
use Rattle.pg_cli_command.proofs.Common.{Lifts, Steps, refusal, IsRefusedBy, Runs, StopsAt, Event, Lift, Deliver, Restart, CoordinatorLift}
use Rattle.pg_cli_command.proofs.Common.{WorldFault, AreMapsOf, IsParted, IsScripted, IsReplayed, IsStopped, world_text}
use Rattle.pg_measure.specs.Measures.{Fits}
use Rattle.pg_world.specs.declared.fault.WorldFault.TheVariants.{OutOfMemory}
use Rattle.pg_cli_command.proofs.Refusing.{parted_once}

-- the laws that the proofs use
pub record Laws : Type 0 where
  pub one_game : SpellsOneGame
  pub one_script : SpellsOneScript
  pub one_bounds : OneListOfBounds
  pub order : OrderIsTotal
  pub same_taken : SameTaken

-- an input has one script
one_start : Laws → (input : List ℕ) (s t : WorldValue) (es fs : List Event) → IsScripted (IsParted input) s es
    → IsScripted (IsParted input) t fs → (s ≡ t) × (es ≡ fs)
one_start laws input s t es fs p q =
    let parts = parted_once input p.first p.second q.first q.second p.parted q.parted in
    let spelt : IsGameText p.first t.game = subst (λ (l : List ℕ). IsGameText l t.game) (sym parts.0) q.spelt in
    let game : s.game ≡ t.game = laws.one_game p.first t.game s.game spelt p.spelt in
    let script : IsScriptText p.second s.game t.cut fs =
    subst (λ (g : List GameVertex). IsScriptText p.second g t.cut fs) (sym game)
    (subst (λ (l : List ℕ). IsScriptText l t.game t.cut fs) (sym parts.1) q.script) in
    let both = laws.one_script p.second s.game t.cut s.cut fs es p.spelt.game_of.well script p.script in
    let bounds : s.bounds ≡ t.bounds =
    laws.one_bounds s.game s.bounds t.bounds p.bounds (subst (λ (g : List GameVertex). IsBoundsOf g t.bounds) (sym game) q.bounds) in
    (same_start s t game bounds both.0 p.new q.new, both.1)
  where
    same_start : (s t : WorldValue) → s.game ≡ t.game → s.bounds ≡ t.bounds → s.cut ≡ t.cut → s ≡ new_world s.game s.bounds s.cut
        → t ≡ new_world t.game t.bounds t.cut → s ≡ t
    same_start s t game bounds cut p q =
        p ∙ ap (λ (g : List GameVertex). new_world g s.bounds s.cut) game ∙ ap (λ (b : BoundList). new_world t.game b s.cut) bounds
        ∙ ap (λ (c : CutValue). new_world t.game t.bounds c) cut ∙ sym q

-- what is taken is taken too
taken_too : (bounds : BoundList) (updates : List UpdateValue) (numbers : List ℕ) → AreTakenToo bounds updates numbers updates numbers
taken_too bounds updates numbers = λ n there. (n, there, refl)

-- a replica has one map
one_map : SameTaken → (w : WorldValue) (r : ℕ) (f g : List MeasureValue) → IsMapOf w r f → IsMapOf w r g → f ≡ g
one_map same w r f g p q =
    let too = taken_too w.bounds w.updates (taken_of w r) in
    same w.bounds (length w.game) w.updates w.updates (taken_of w r) (taken_of w r) f g too too p q

pub one_list_of_maps : SameTaken → (w : WorldValue) (maps others : List (List MeasureValue)) → AreMapsOf w maps → AreMapsOf w others → maps ≡ others
one_list_of_maps same w maps others p q =
    same_lists maps others (p.count ∙ sym q.count) (λ k d lt.
    let there : k < length others = omega (arith, p.count, q.count) in
    let within : k ≤ w.cut.workers = omega (arith, p.count) in
    sym (get_or_default maps k [] d lt) ∙ one_map same w k (get_or maps k []) (get_or others k []) (p.each k within) (q.each k within)
    ∙ get_or_default others k [] d there)

-- where a vertex is served its measure isn't below the least serving one
not_served : OrderIsTotal → (old : WorldValue) (f : List MeasureValue) (v : ℕ) (m : MeasureValue) → All (Fits old.bounds) f
    → IsServed old.bounds (game_line old.game) f v → IsLeastServing old.bounds (game_line old.game) f v m → IsBelow (measure_at f v) m → ⊥
not_served order old f v m fits served least below =
    (order.strict (measure_at f v) m below).1 (least.least (measure_at f v) (fits_at old.bounds f v fits) served)

-- a lift in one map makes one world
one_lift_in : OrderIsTotal → (old a b : WorldValue) (r v : ℕ) (f : List MeasureValue) → All (Fits old.bounds) f → LiftsIn f old r v a
    → LiftsIn f old r v b → a ≡ b
one_lift_in order old a b r v f fits (inl stays) (inl stays') = stays.1 ∙ sym stays'.1
one_lift_in order old a b r v f fits (inl stays) (inr made) = absurd (not_served order old f v made.0 fits stays.0 made.1 made.2)
one_lift_in order old a b r v f fits (inr made) (inl stays) = absurd (not_served order old f v made.0 fits stays.0 made.1 made.2)
one_lift_in order old a b r v f fits (inr made) (inr made') =
    let same : made.0 ≡ made'.0 =
    order.antisymmetric made.0 made'.0 (made.1.least made'.0 made'.1.fits made'.1.covers) (made'.1.least made.0 made.1.fits made.1.covers) in
    made.3 ∙ ap (λ (m : MeasureValue). making old r (record { vertex = v; measure = m })) same ∙ sym made'.3

one_lift : Laws → (old a b : WorldValue) (r v : ℕ) → Lifts old r v a → Lifts old r v b → a ≡ b
one_lift laws old a b r v p q =
    let same : q.0 ≡ p.0 = one_map laws.same_taken old r q.0 p.0 q.1 p.1 in
    one_lift_in laws.order old a b r v p.0 p.1.map.fits p.2 (subst (λ (f : List MeasureValue). LiftsIn f old r v b) same q.2)

-- so does each event
one_step : Laws → (old a b : WorldValue) (e : Event) → Steps old e a → Steps old e b → a ≡ b
one_step laws old a b (Lift worker v) p q = one_lift laws old a b worker v p q
one_step laws old a b (Deliver replica n) p q = p ∙ sym q
one_step laws old a b (Restart worker) p q = p ∙ sym q
one_step laws old a b (CoordinatorLift v) p q = one_lift laws old a b 0 v p q

-- and so do events one after another
one_run : Laws → (old a b : WorldValue) (es : List Event) → Runs old es a → Runs old es b → a ≡ b
one_run laws old a b [] p q = p ∙ sym q
one_run laws old a b (e ∷ es) p q =
    let same : q.0 ≡ p.0 = one_step laws old q.0 p.0 e q.2 p.2 in
    one_run laws p.0 a b es p.3 (subst (λ (w : WorldValue). Runs w es b) same q.3)

-- The events before the place i went ahead and made `new`, and the reason against the event there is this one.
pub record IsHaltedAt (old : WorldValue) (es : List Event) (i : ℕ) (fault : WorldFault) (new : WorldValue) : Type 0 where
  pub event : Event
  pub before : Runs old (take i es) new
  pub there : slice_get es i ≡ Some event
  pub reason : refusal new event ≡ Some fault

-- memory aside an event is refused for the reason against it
reason_is : (fault : WorldFault) (reason : Option WorldFault) → fault ≢ OutOfMemory → IsRefusedBy fault reason → reason ≡ Some fault
reason_is OutOfMemory reason ne why = absurd (ne refl)
reason_is _ reason ne why = why

halted : (old new : WorldValue) (es : List Event) (i : ℕ) (fault : WorldFault) → fault ≢ OutOfMemory → StopsAt old es i fault new
    → IsHaltedAt old es i fault new
halted old new es i fault ne s = record {
  event = s.event;
  before = s.before;
  there = s.there;
  reason = reason_is fault (refusal new s.event) ne s.refused;
}

-- an event that is refused doesn't go ahead
not_both : (old new : WorldValue) (e : Event) (es : List Event) (fault : WorldFault) → IsHaltedAt old (e ∷ es) 0 fault new → refusal old e ≡ None → ⊥
not_both old new e es fault h goes =
    let b : new ≡ old = h.before in
    let s : Some e ≡ Some h.event = h.there in
    let reason : refusal new h.event ≡ Some fault = h.reason in
    let same : e ≡ h.event = cc in
    let first : refusal old e ≡ Some fault = subst (λ (x : Event). refusal old x ≡ Some fault) (sym same)
    (subst (λ (w : WorldValue). refusal w h.event ≡ Some fault) b reason) in
    (cc)

-- one later than an event that went ahead
later : (old mid new : WorldValue) (e : Event) (es : List Event) (i : ℕ) (fault : WorldFault) → Laws → Steps old e mid
    → IsHaltedAt old (e ∷ es) (suc i) fault new → IsHaltedAt mid es i fault new
later old mid new e es i fault laws step h =
    let b = h.before in
    let same : b.0 ≡ mid = one_step laws old b.0 mid e b.2 step in
    record { event = h.event; before = subst (λ (w : WorldValue). Runs w (take i es) new) same b.3; there = h.there; reason = h.reason }

-- where events run to the end none of them is refused
none_halted : Laws → (old end new : WorldValue) (es : List Event) (i : ℕ) (fault : WorldFault) → Runs old es end → IsHaltedAt old es i fault new → ⊥
none_halted laws old end new [] i fault p h = let s : None ≡ Some h.event = h.there in (cc)
none_halted laws old end new (e ∷ es) zero fault p h = not_both old new e es fault h p.1
none_halted laws old end new (e ∷ es) (suc i) fault p h =
    none_halted laws p.0 end new es i fault p.3 (later old p.0 new e es i fault laws p.2 h)

-- the first event that is refused is one event, and it is refused for one reason
one_halt : Laws → (old a b : WorldValue) (es : List Event) (i j : ℕ) (fault other : WorldFault) → IsHaltedAt old es i fault a → IsHaltedAt old es j other b
    → (i ≡ j) × (fault ≡ other)
one_halt laws old a b [] i j fault other p q = let s : None ≡ Some p.event = p.there in absurd (cc)
one_halt laws old a b (e ∷ es) zero zero fault other p q =
    let x : a ≡ old = p.before in
    let y : b ≡ old = q.before in
    let s : Some e ≡ Some p.event = p.there in
    let t : Some e ≡ Some q.event = q.there in
    let world : a ≡ b = x ∙ sym y in
    let event : p.event ≡ q.event = cc in
    let reason : refusal b q.event ≡ Some fault =
    subst (λ (z : Event). refusal b z ≡ Some fault) event (subst (λ (w : WorldValue). refusal w p.event ≡ Some fault) world p.reason) in
    let both : Some fault ≡ Some other = sym reason ∙ q.reason in
    (refl, (cc))
one_halt laws old a b (e ∷ es) zero (suc j) fault other p q = let run = q.before in absurd (not_both old a e es fault p run.1)
one_halt laws old a b (e ∷ es) (suc i) zero fault other p q = let run = p.before in absurd (not_both old b e es other q run.1)
one_halt laws old a b (e ∷ es) (suc i) (suc j) fault other p q =
    let run = p.before in
    let rest = one_halt laws run.0 a b es i j fault other (later old run.0 a e es i fault laws run.2 p) (later old run.0 b e es j other laws run.2 q) in
    (ap suc rest.0, rest.1)

pub one_replayed : Laws → (input first second : List ℕ) → IsReplayed (IsParted input) first → IsReplayed (IsParted input) second → first ≡ second
one_replayed laws input first second p q =
    let begun = one_start laws input p.replayed.start q.replayed.start p.replayed.events q.replayed.events p.replayed.scripted q.replayed.scripted in
    let runs : Runs p.replayed.start p.replayed.events q.after =
    subst (λ (w : WorldValue). Runs w p.replayed.events q.after) (sym begun.0)
    (subst (λ (es : List Event). Runs q.replayed.start es q.after) (sym begun.1) q.replayed.runs) in
    let world : p.after ≡ q.after = one_run laws p.replayed.start p.after q.after p.replayed.events p.replayed.runs runs in
    let are : AreMapsOf p.after q.maps = subst (λ (w : WorldValue). AreMapsOf w q.maps) (sym world) q.are in
    let maps : p.maps ≡ q.maps = one_list_of_maps laws.same_taken p.after p.maps q.maps p.are are in
    p.printed ∙ ap₂ (λ (w : WorldValue) (fs : List (List MeasureValue)). world_text w fs) world maps ∙ sym q.printed

pub unrefused : Laws → (input output : List ℕ) (place : ℕ) (fault : WorldFault) → IsReplayed (IsParted input) output → ¬ IsStopped (IsParted input) place fault
unrefused laws input output place fault p q =
    let begun = one_start laws input p.replayed.start q.start p.replayed.events q.events p.replayed.scripted q.scripted in
    let runs : Runs q.start q.events p.after =
    subst (λ (w : WorldValue). Runs w q.events p.after) begun.0
    (subst (λ (es : List Event). Runs p.replayed.start es p.after) begun.1 p.replayed.runs) in
    none_halted laws q.start p.after q.before q.events place fault runs (halted q.start q.before q.events place fault q.reason q.stops)

pub one_stop : Laws → (input : List ℕ) (first second : ℕ) (fault other : WorldFault) → IsStopped (IsParted input) first fault
    → IsStopped (IsParted input) second other → (first ≡ second) × (fault ≡ other)
one_stop laws input first second fault other p q =
    let begun = one_start laws input p.start q.start p.events q.events p.scripted q.scripted in
    let here = halted p.start p.before p.events first fault p.reason p.stops in
    let there : IsHaltedAt p.start p.events second other q.before =
    subst (λ (w : WorldValue). IsHaltedAt w p.events second other q.before) (sym begun.0)
    (subst (λ (es : List Event). IsHaltedAt q.start es second other q.before) (sym begun.1) (halted q.start q.before q.events second other q.reason q.stops)) in
    one_halt laws p.start p.before q.before p.events first second fault other here there
