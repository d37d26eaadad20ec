-- The map of a worker stays under the closed maps that are at least what it took.
use Rattle.pg_worker.proofs.Common.{◌≡◌, ℕ, ◌<◌, List, [], ◌∷◌, length, refl, sym, subst, ap, ◌∙◌, arith, inl, inr, None, Option, cases_eq}
use Rattle.pg_worker.proofs.Common.{get_or-set_same, get_or-set_other, length-replicate, length-set, BoundList, MeasureValue, AtMost, zeros}
use Rattle.pg_worker.proofs.Common.{Line, measure_at, IsMap, zero_map, update_map, MapAtMost, IsClosed, StaysUnder, Update}
use Rattle.pg_worker.proofs.Common.{lift_stays_under, zero_map_least, AreLifts, Step, Taken, Lifted, AreSteps, IsAtLeastTaken}

lifts_under : (bs : BoundList) (lines : ℕ → Option Line) (n : ℕ) (f g h : List MeasureValue) (us : List Update) → AreLifts bs lines f us g
    → length f ≡ n → IsMap bs n h → IsClosed bs lines h → MapAtMost f h → MapAtMost g h
lifts_under bs lines n f g h [] e s m c le = subst (λ (x : List MeasureValue). MapAtMost x h) (sym e) le
lifts_under bs lines n f g h (u ∷ us) r s m c le =
    let k = r.0 in
    let m' : IsMap bs (length f) h = subst (λ (x : ℕ). IsMap bs x h) (sym s) m in
    let size : length k ≡ n = ap length r.1.lifted.others ∙ (length-set f u.vertex (measure_at k u.vertex) ∙ s) in
    lifts_under bs lines n k g h us r.2 size m c (lift_stays_under bs lines f k u.vertex r.1.mine r.1.lifted h m' c le)

pub lifts_stay_under : (bs : BoundList) (lines : ℕ → Option Line) (f g : List MeasureValue) (us : List Update) → AreLifts bs lines f us g
    → StaysUnder bs lines f g
lifts_stay_under bs lines f g us l = λ h m c le. lifts_under bs lines (length f) f g h us l refl m c le

pub update_under : (bs : BoundList) (n v u : ℕ) (m : MeasureValue) (h : List MeasureValue) → v < n → IsMap bs n h
    → AtMost m (measure_at h v) → AtMost (measure_at (update_map bs n v m) u) (measure_at h u)
update_under bs n v u m h lt map le =
    let size : length (zero_map bs n) ≡ n = length-replicate n (zeros bs) in
    elim (cases_eq u v) [
      | inl e ↦ subst (λ (w : ℕ). AtMost (measure_at (update_map bs n v m) w) (measure_at h w)) (sym e)
          (subst (λ (x : MeasureValue). AtMost x (measure_at h v)) (sym (get_or-set_same (zero_map bs n) v m None (omega arith))) le)
      | inr ne ↦ subst (λ (x : MeasureValue). AtMost x (measure_at h u)) (sym (get_or-set_other (zero_map bs n) v u m None ne)) (zero_map_least bs n h map u)
    ]

steps_under : (bs : BoundList) (lines : ℕ → Option Line) (n : ℕ) (f g h : List MeasureValue) (ss : List Step) → AreSteps bs lines f ss g
    → length f ≡ n → IsMap bs n h → IsClosed bs lines h → IsAtLeastTaken ss h → MapAtMost f h → MapAtMost g h
steps_under bs lines n f g h [] e s m c t le = subst (λ (x : List MeasureValue). MapAtMost x h) (sym e) le
steps_under bs lines n f g h (Taken v o ∷ ss) r s m c t le =
    let m' : IsMap bs (length f) h = subst (λ (x : ℕ). IsMap bs x h) (sym s) m in
    steps_under bs lines n r.0 g h ss r.4 (r.2 ∙ s) m c t.1 (r.3.least h le (λ u. update_under bs (length f) v u o h r.1 m' t.0))
steps_under bs lines n f g h (Lifted us ∷ ss) r s m c t le =
    steps_under bs lines n r.0 g h ss r.3 (r.1 ∙ s) m c t (lifts_under bs lines n f r.0 h us r.2 s m c le)

pub stay_under : (bs : BoundList) (lines : ℕ → Option Line) (n : ℕ) (ss : List Step) (g h : List MeasureValue)
    → AreSteps bs lines (zero_map bs n) ss g → IsMap bs n h → IsClosed bs lines h → IsAtLeastTaken ss h → MapAtMost g h
stay_under bs lines n ss g h r m c t = steps_under bs lines n (zero_map bs n) g h ss r (length-replicate n (zeros bs)) m c t (zero_map_least bs n h m)
