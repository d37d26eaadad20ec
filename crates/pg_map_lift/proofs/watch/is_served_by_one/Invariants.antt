use Rattle.std.proofs.Common.{ℕ, ◌<◌, get_or}
use Rattle.pg_map.specs.Maps.{IsServedBy}
use Rattle.pg_map_lift.proofs.watch.is_served_by_one.Given as goal

-- none of those before serves v
abbrev pub invariant-loop-w : goal.invariant-loop-w
invariant-loop-w g l =
    (k : ℕ) → k < l.w-index → IsServedBy l.map.bounds (g.G.Lines.line l.lines) l.map.measures l.v (get_or l.others k 0) → ⊥
