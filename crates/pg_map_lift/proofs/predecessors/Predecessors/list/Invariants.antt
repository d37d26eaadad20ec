use Rattle.std.proofs.Common.{ℕ, ◌<◌, slice_index_or}
use Rattle.std.specs.List.{Contains}
use Rattle.pg_map_lift.specs.Mirrors.Watches.{sources_of}
use Rattle.pg_map_lift.proofs.predecessors.Predecessors.list.Given as goal

-- v is listed as leading to each of those before
abbrev pub invariant-loop-w : goal.invariant-loop-w
invariant-loop-w l =
    (k d : ℕ) → k < l.w-index → Contains (sources_of l.self.starts.items l.self.sources.items (slice_index_or l.others k d)) l.v
