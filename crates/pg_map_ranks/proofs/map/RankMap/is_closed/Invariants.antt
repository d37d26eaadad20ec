use Rattle.pg_map_ranks.proofs.Common.{ℕ, ◌<◌, IsSome, IsServed}
use Rattle.pg_map_ranks.proofs.map.RankMap.is_closed.Given as goal

abbrev pub invariant-loop-number : goal.invariant-loop-number
invariant-loop-number g l =
    (v : ℕ) → v < l.number → IsSome (g.G.Lines.line l.lines v)
    → IsServed l.self.bounds (g.G.Lines.line l.lines) l.self.measures v
