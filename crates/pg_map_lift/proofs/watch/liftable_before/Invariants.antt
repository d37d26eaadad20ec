use Rattle.std.proofs.Common.{ℕ, ◌<◌, slice_index_or}
use Rattle.pg_map_lift.specs.Mirrors.Watches.{AreServed, sources_of}
use Rattle.pg_map_lift.proofs.watch.liftable_before.Given as goal

-- those that lead to one before are served
abbrev pub invariant-loop-x : goal.invariant-loop-x
invariant-loop-x g l = (k d : ℕ) → k < l.x-index → AreServed l.map.bounds (g.G.Lines.line l.lines) l.map.measures
    (sources_of l.predecessors.starts.items l.predecessors.sources.items (slice_index_or l.risen k d))
