use Rattle.std.proofs.Common.{ℕ, ◌<◌, slice_index_or}
use Rattle.std.specs.Prelude.{IsSome}
use Rattle.pg_map.specs.Maps.{IsServed}
use Rattle.pg_map_lift.proofs.watch.liftable_of.Given as goal

-- those before are served
abbrev pub invariant-loop-v : goal.invariant-loop-v
invariant-loop-v g l = (k d : ℕ) → k < l.v-index → IsSome (g.G.Lines.line l.lines (slice_index_or l.vertices k d))
    → IsServed l.map.bounds (g.G.Lines.line l.lines) l.map.measures (slice_index_or l.vertices k d)
