-- A lift over the best successor.
use Rattle.pg_map.proofs.Common.{◌≡◌, ℕ, Bool, true, false, Some, None, List, set, take, Option, refl, inl, inr, Player, BoundList}
use Rattle.pg_map.proofs.Common.{MeasureValue, CoversFront, is_odd, width_from, MissesFront, IsLeastCover, below_or, Line, line_at}
use Rattle.pg_map.proofs.Common.{measure_at, IsServed, IsServedBy, IsLifted, IsBest}
use Rattle.pg_map.proofs.Lifts.{best_serves, lifted_by_step, lifted_line}

-- what doesn't cover misses
pub misses_by : (strict : Bool) (k : ℕ) (m n : MeasureValue) → (CoversFront strict k m n → ⊥) → MissesFront strict k m n
misses_by strict k None n h = h tt
misses_by strict k (Some xs) None h = tt
misses_by true k (Some xs) (Some ys) h = elim (below_or (take k ys) (take k xs)) [ inl b ↦ absurd (h b) | inr a ↦ a ]
misses_by false k (Some xs) (Some ys) h = elim (below_or (take k xs) (take k ys)) [ inl b ↦ b | inr a ↦ absurd (h a) ]

pub lifted_over : (bs ks : BoundList) (lines : ℕ → Option Line) (f g : List MeasureValue) (v w p front : ℕ) → p ≡ (line_at lines v).priority
    → ks ≡ bs → front ≡ width_from ks p
    → IsBest (line_at lines v).owner (width_from bs (line_at lines v).priority) f (line_at lines v).successors w
    → (IsServedBy bs lines f v w → ⊥) → IsLeastCover bs (is_odd p) front (measure_at f w) (measure_at g v) → g ≡ set f v (measure_at g v)
    → IsLifted bs lines f g v
lifted_over bs ks lines f g v w p front ep ek ef best un c others =
    let l = line_at lines v in
    let c' : IsLeastCover bs (is_odd l.priority) (width_from bs l.priority) (measure_at f w) (measure_at g v) = rw (ef, ek, ep) at c in
    let h = misses_by (is_odd l.priority) (width_from bs l.priority) (measure_at f v) (measure_at f w) un in
    lifted_line bs lines l f g v refl (lifted_by_step bs l f g v w (width_from bs l.priority) (measure_at f v) (measure_at f w) refl refl refl best h c' others)

-- the best successor of a vertex that isn't served doesn't serve it
pub lifted_best : (bs ks : BoundList) (lines : ℕ → Option Line) (f g : List MeasureValue) (v w p front : ℕ) (o : Player) (ss : List ℕ)
    → p ≡ (line_at lines v).priority → o ≡ (line_at lines v).owner → ss ≡ (line_at lines v).successors → ks ≡ bs → front ≡ width_from ks p
    → IsBest o front f ss w → (IsServed bs lines f v → ⊥) → IsLeastCover bs (is_odd p) front (measure_at f w) (measure_at g v)
    → g ≡ set f v (measure_at g v) → IsLifted bs lines f g v
lifted_best bs ks lines f g v w p front o ss ep eo es ek ef best un c others =
    let l = line_at lines v in
    let best' : IsBest l.owner (width_from bs l.priority) f l.successors w = rw (ef, ek, ep, eo, es) at best in
    lifted_over bs ks lines f g v w p front ep ek ef best'
    (λ h. un (best_serves l.owner (is_odd l.priority) (width_from bs l.priority) f l.successors w (measure_at f v) best' h)) c others
