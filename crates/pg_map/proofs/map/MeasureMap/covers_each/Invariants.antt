use Rattle.pg_map.proofs.Common.{ℕ, ◌<◌, slice_index, CoversFront, measure_at}
use Rattle.pg_map.proofs.map.MeasureMap.covers_each.Given as goal

-- each of the successors before is covered
abbrev pub invariant-loop-w : goal.invariant-loop-w
invariant-loop-w l = (k : ℕ) → k < l.w-index → CoversFront l.strict l.front (measure_at l.self.measures l.v)
    (measure_at l.self.measures (slice_index l.successors k))
