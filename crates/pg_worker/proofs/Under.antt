-- What is told after lifts is at most every closed map that the worker is under.
use Rattle.pg_worker.proofs.Common.{ℕ, ◌<◌, List, length, map, get_or, sym, subst, arith, get_or-map, length-map, MeasureValue, AtMost}
use Rattle.pg_worker.proofs.Common.{measure_at, MapAtMost, Measured, IsAtLeast, ToldStayUnder}

all_under : (f k : List MeasureValue) (vs : List ℕ) → MapAtMost f k → IsAtLeast k (map (λ v. (v, measure_at f v)) vs)
all_under f k vs h = λ i d lt.
    let within : i < length vs = omega (arith, length-map {B = Measured} vs (λ v. (v, measure_at f v))) in
    subst (λ (m : Measured). AtMost m.1 (measure_at k m.0)) (sym (get_or-map {Y = Measured} (λ v. (v, measure_at f v)) vs i 0 d within)) (h (get_or vs i 0))

pub told_stay_under : ToldStayUnder
told_stay_under h budget after reply k t is_map closed above = all_under t.worker.map k t.worker.lifted (t.turn.turn.lifts.under k is_map closed above)
