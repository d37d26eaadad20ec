use Rattle.std.proofs.Common.{ℕ, ◌<◌, slice_index_or}
use Rattle.pg_map.specs.Maps.{IsServedBy}
use Rattle.pg_map_lift.proofs.watch.is_served_by_each.Given as goal

-- each of those before serves v
abbrev pub invariant-loop-w : goal.invariant-loop-w
invariant-loop-w g l =
    (k d : ℕ) → k < l.w-index → IsServedBy l.map.bounds (g.G.Lines.line l.lines) l.map.measures l.v (slice_index_or l.others k d)
