use Rattle.std.proofs.Common.{ℕ, ◌<◌}
use Rattle.std.specs.Prelude.{IsSome}
use Rattle.pg_map.specs.Lines.{line_at}
use Rattle.pg_map_lift.specs.Mirrors.Watches.{IsListed}
use Rattle.pg_map_lift.proofs.predecessors.Predecessors.list_all.Given as goal

-- each vertex before is listed where it leads to
abbrev pub invariant-loop-number : goal.invariant-loop-number
invariant-loop-number g l = (u : ℕ) → u < l.number → IsSome (g.G.Lines.line l.lines u)
    → IsListed l.self.starts.items l.self.sources.items u (line_at (g.G.Lines.line l.lines) u).successors
