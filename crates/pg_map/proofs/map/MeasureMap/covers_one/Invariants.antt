use Rattle.pg_map.proofs.Common.{ℕ, ◌<◌, get_or, CoversFront, measure_at}
use Rattle.pg_map.proofs.map.MeasureMap.covers_one.Given as goal

-- none of the successors before is covered
abbrev pub invariant-loop-w : goal.invariant-loop-w
invariant-loop-w l = (k : ℕ) → k < l.w-index → CoversFront l.strict l.front (measure_at l.self.measures l.v)
    (measure_at l.self.measures (get_or l.successors k 0)) → ⊥
