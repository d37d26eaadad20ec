-- Maps that are lifted, from zeros to the end.
use Rattle.pg_solver.proofs.Common.{◌≡◌, ◌∙◌, ℕ, ◌<◌, List, length, refl, sym, subst, All, Option, length-replicate, BoundList}
use Rattle.pg_solver.proofs.Common.{MeasureValue, Fits, zeros, Line, MapValue, zero_map, IsMap, IsClosed, IsLeastProgressMeasure}
use Rattle.pg_solver.proofs.Common.{IsLeastClosedFrom, StaysUnder, map_weight, lift_stays_under, stays_trans, lift_falls, zero_map_least}
use Rattle.pg_solver.proofs.Common.{least_from_zero, LifterValue, Lifts, IsAtZero, IsRaised}

pub raised_itself : (lines : ℕ → Option Line) (f : MapValue) → IsRaised lines f f
raised_itself lines f = record {
  bounds = refl;
  size = refl;
  under = λ h is closed le. le;
}

pub raised_on : (lines : ℕ → Option Line) (f g h : MapValue) → IsRaised lines f g → IsRaised lines g h → IsRaised lines f h
raised_on lines f g h a b = record {
  bounds = b.bounds ∙ a.bounds;
  size = b.size ∙ a.size;
  under = stays_trans f.bounds lines f.measures g.measures h.measures a.size a.under
      (subst (λ (bs : BoundList). StaysUnder bs lines g.measures h.measures) a.bounds b.under);
}

-- a vertex more was lifted
pub raised_by : {X : Type 0} (line : X → ℕ → Option Line) (first old new : LifterValue X) (v : ℕ) → old.lines ≡ first.lines
    → Lifts line old new v → IsRaised (line first.lines) first.map old.map → IsRaised (line first.lines) first.map new.map
raised_by line first old new v same l r = raised_on (line first.lines) first.map old.map new.map r (rw (← same) record {
  bounds = l.same.bounds;
  size = l.same.size;
  under = lift_stays_under old.map.bounds (line old.lines) old.map.measures new.map.measures v l.held l.lifted;
})

-- and there is less to rise
pub falls_by : {X : Type 0} (line : X → ℕ → Option Line) (old new : LifterValue X) (v : ℕ) (bs : BoundList) → old.map.bounds ≡ bs → Lifts line old new v
    → map_weight bs new.map.measures < map_weight bs old.map.measures
falls_by line old new v bs e l = subst (λ (b : BoundList). map_weight b new.map.measures < map_weight b old.map.measures) e
    (lift_falls old.map.bounds (line old.lines) old.map.measures new.map.measures v l.below l.lifted)

-- lifted from zeros to the end a map is the least progress measure
pub least_of_lifting : (lines : ℕ → Option Line) (zero map : MapValue) → IsAtZero zero → IsRaised lines zero map
    → IsClosed map.bounds lines map.measures → All (Fits map.bounds) map.measures
    → IsLeastProgressMeasure map.bounds (length zero.measures) lines map.measures
least_of_lifting lines zero map same raised closed fits =
    let n = length zero.measures in
    let bs = zero.bounds in
    let under : StaysUnder bs lines (zero_map bs n) map.measures =
    subst (λ (f : List MeasureValue). StaysUnder bs lines f map.measures) same raised.under in
    let is : IsMap bs n map.measures =
    record { size = raised.size; fits = subst (λ (b : BoundList). All (Fits b) map.measures) raised.bounds fits } in
    let least : IsLeastClosedFrom bs lines (zero_map bs n) map.measures =
    record {
      map = subst (λ k. IsMap bs k map.measures) (sym (length-replicate n (zeros bs))) is;
      above = zero_map_least bs n map.measures is;
      closed = subst (λ (b : BoundList). IsClosed b lines map.measures) raised.bounds closed;
      least = under;
    } in
    subst (λ (b : BoundList). IsLeastProgressMeasure b n lines map.measures) (sym raised.bounds)
    (least_from_zero bs lines n map.measures least)
