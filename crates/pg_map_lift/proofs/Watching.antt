-- What a watch knows when a vertex rises, and what a look shows.
use Rattle.std.proofs.Common.{◌≡◌, ◌≢◌, ℕ, suc, ◌<◌, ◌++◌, ◌∷◌, [], ◌⊎◌, ◌∙◌, Bool, true, false, List, length, set, arith, refl, sym, ap, subst, inl, inr}
use Rattle.std.specs.Prelude.{All, Option, IsSome, None}
use Rattle.std.specs.List.{Contains}
use Rattle.std.proofs.lemmas.Bool.{cases_eq}
use Rattle.std.proofs.lemmas.List.{get_or-set_other, get_or-set_same, get_or_default}
use Rattle.std.proofs.lemmas.List.Elements.{All-cons, All-head, All-tail, All-contains, Contains-append_left, Contains-append_right}
use Rattle.pg_arena.specs.declared.player.Player.{Player}
use Rattle.pg_arena.specs.declared.player.Player.TheVariants.{Even, Odd}
use Rattle.pg_measure.specs.Measures.{AtMost, BoundList, Covers, IsBelow, MeasureValue, is_odd, width_from}
use Rattle.pg_measure.proofs.Order.{at_most_same, below_is, more_covers}
use Rattle.pg_map.specs.Lines.{Line, AreWithin, line_at}
use Rattle.pg_map.specs.Maps.{MapValue, IsClosed, IsLifted, IsServed, SomeOrAll, measure_at}
use Rattle.pg_map_lift.specs.Mirrors.Lifters.{IsLifter}
use Rattle.pg_map_lift.specs.Mirrors.Watches.{AreServed, AreServedBut, IsWatch, ListsAll, sources_of}

-- x alone rose
pub record IsRise (f g : List MeasureValue) (x : ℕ) : Type 0 where
  pub others : (w : ℕ) → w ≢ x → measure_at g w ≡ measure_at f w
  pub above : (v : ℕ) → AtMost (measure_at f v) (measure_at g v)

pub rise_to : (f g : List MeasureValue) (x : ℕ) (m : MeasureValue) → x < length f → g ≡ set f x m → IsBelow (measure_at f x) m → IsRise f g x
rise_to f g x m lt e below =
    let others : (w : ℕ) → w ≢ x → measure_at g w ≡ measure_at f w =
    λ w ne. ap (λ (h : List MeasureValue). measure_at h w) e ∙ get_or-set_other f x w m None ne in
    let at : measure_at g x ≡ m = ap (λ (h : List MeasureValue). measure_at h x) e ∙ get_or-set_same f x m None lt in
    record {
      others = others;
      above = λ v. elim (cases_eq v x) [
        | inl q ↦ subst (λ (w : ℕ). AtMost (measure_at f w) (measure_at g w)) (sym q)
            (subst (λ (n : MeasureValue). AtMost (measure_at f x) n) (sym at) (below_is (measure_at f x) m below))
        | inr ne ↦ subst (λ (n : MeasureValue). AtMost (measure_at f v) n) (sym (others v ne)) (at_most_same (measure_at f v))
      ];
    }

-- a lift
pub lifted_rise : (bs : BoundList) (lines : ℕ → Option Line) (f g : List MeasureValue) (v : ℕ) → v < length f → IsLifted bs lines f g v → IsRise f g v
lifted_rise bs lines f g v lt l = rise_to f g v (measure_at g v) lt l.others l.above

covers_on : (bs : BoundList) (p : ℕ) (f g : List MeasureValue) (x w : ℕ) (m n : MeasureValue) → IsRise f g x → AtMost m n → w ≢ x
    → Covers bs p m (measure_at f w) → Covers bs p n (measure_at g w)
covers_on bs p f g x w m n r le ne h =
    more_covers (is_odd p) (width_from bs p) m (measure_at g w) n (subst (λ (k : MeasureValue). Covers bs p m k) (sym (r.others w ne)) h) le

all_on : (bs : BoundList) (p : ℕ) (f g : List MeasureValue) (x : ℕ) (m n : MeasureValue) (ss : List ℕ) → IsRise f g x → AtMost m n
    → All (λ w. Covers bs p m (measure_at f w)) ss → All (λ w. Covers bs p n (measure_at g w)) ss ⊎ Contains ss x
all_on bs p f g x m n [] r le h = inl (λ k d lt. absurd (omega arith))
all_on bs p f g x m n (w ∷ ws) r le h =
    elim (cases_eq w x) [
      | inl q ↦ inr (0, omega arith, q)
      | inr ne ↦ elim (all_on bs p f g x m n ws r le (All-tail (λ u. Covers bs p m (measure_at f u)) w ws h)) [
        | inl rest ↦ inl (All-cons (λ u. Covers bs p n (measure_at g u)) w ws
            (covers_on bs p f g x w m n r le ne (All-head (λ u. Covers bs p m (measure_at f u)) w ws h)) rest)
        | inr c ↦ inr (suc c.0, omega (arith, c.1), c.2)
      ]
    ]

-- who was served still is, unless x is a successor
served_on : (o : Player) (bs : BoundList) (p : ℕ) (f g : List MeasureValue) (x : ℕ) (m n : MeasureValue) (ss : List ℕ) → IsRise f g x → AtMost m n
    → SomeOrAll o (λ w. Covers bs p m (measure_at f w)) ss → SomeOrAll o (λ w. Covers bs p n (measure_at g w)) ss ⊎ Contains ss x
served_on Even bs p f g x m n ss r le h =
    elim (cases_eq h.1 x) [
      | inl q ↦ inr (h.0, h.2, get_or_default ss h.0 x h.1 h.2 ∙ (h.3 ∙ q))
      | inr ne ↦ inl (h.0, h.1, h.2, h.3, covers_on bs p f g x h.1 m n r le ne h.4)
    ]
served_on Odd bs p f g x m n ss r le h = all_on bs p f g x m n ss r le h

served_more : (bs : BoundList) (lines : ℕ → Option Line) (f g : List MeasureValue) (x : ℕ) (risen : List ℕ) → IsRise f g x
    → AreServedBut bs lines f risen → AreServedBut bs lines g (risen ++ x ∷ [])
served_more bs lines f g x risen r all = λ v s.
    let l = line_at lines v in
    elim (all v s) [
      | inl h ↦ elim (served_on l.owner bs l.priority f g x (measure_at f v) (measure_at g v) l.successors r (r.above v) h) [
        | inl still ↦ inl still
        | inr c ↦ inr (record { w = x; follows = c; rose = Contains-append_right risen (x ∷ []) x (0, omega arith, refl) })
      ]
      | inr h ↦ inr (record { w = h.w; follows = h.follows; rose = Contains-append_left risen (x ∷ []) h.w h.rose })
    ]

-- what a watch that is still on knows of what it knew
pub record IsKept (starts starts' sources sources' : List ℕ) (on : Bool) (risen risen' : List ℕ) (x : ℕ) : Type 0 where
  pub was_on : on ≡ true
  pub same_starts : starts' ≡ starts
  pub same_sources : sources' ≡ sources
  pub rose : risen' ≡ risen ++ x ∷ []

pub lifter_on : (lines : ℕ → Option Line) (old new : MapValue) (starts starts' sources sources' : List ℕ) (on on' : Bool) (risen risen' : List ℕ) (x : ℕ)
    → new.bounds ≡ old.bounds → length new.measures ≡ length old.measures → IsRise old.measures new.measures x
    → (on' ≡ true → IsKept starts starts' sources sources' on risen risen' x)
    → IsLifter lines old starts sources on risen → IsLifter lines new starts' sources' on' risen'
lifter_on lines old new starts starts' sources sources' on on' risen risen' x bounds size r kept l = record {
  within = rw size l.within;
  watched = λ is.
      let k = kept is in
      let w = l.watched k.was_on in
      rw (k.same_starts, k.same_sources, k.rose, bounds) record {
        listed = w.listed;
        served = served_more old.bounds lines old.measures new.measures x risen r w.served;
      };
}

-- what is shown where those are served that lead to one that rose
pub closed_by : (bs : BoundList) (lines : ℕ → Option Line) (f : List MeasureValue) (starts sources risen : List ℕ)
    → IsWatch bs lines f starts sources risen → All (λ x. AreServed bs lines f (sources_of starts sources x)) risen → IsClosed bs lines f
closed_by bs lines f starts sources risen w look = λ v s.
    elim (w.served v s) [
      | inl h ↦ h
      | inr h ↦
          let there = All-contains (λ u. Contains (sources_of starts sources u) v) (line_at lines v).successors h.w (w.listed v s) h.follows in
          let all = All-contains (λ x. AreServed bs lines f (sources_of starts sources x)) risen h.w look h.rose in
          All-contains (λ u. IsSome (lines u) → IsServed bs lines f u) (sources_of starts sources h.w) v all there s
    ]

-- a watch that begins
pub lifter_begins : (lines : ℕ → Option Line) (map : MapValue) (starts sources : List ℕ) (on : Bool) (risen : List ℕ) → AreWithin (length map.measures) lines
    → IsClosed map.bounds lines map.measures → (on ≡ true → (risen ≡ []) × ListsAll starts sources lines) → IsLifter lines map starts sources on risen
lifter_begins lines map starts sources on risen within closed begun = record {
  within = within;
  watched = λ is. record { listed = (begun is).1; served = λ v s. inl (closed v s) };
}

-- a watch that is off
pub lifter_off : (lines : ℕ → Option Line) (map : MapValue) (starts sources : List ℕ) (on : Bool) (risen : List ℕ) → AreWithin (length map.measures) lines
    → on ≡ false → IsLifter lines map starts sources on risen
lifter_off lines map starts sources on risen within off = record {
  within = within;
  watched = λ is. let no : true ≡ false = sym is ∙ off in absurd cc;
}
