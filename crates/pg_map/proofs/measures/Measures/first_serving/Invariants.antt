use Rattle.pg_map.proofs.Common.{ℕ, ◌<◌, get_or, IsServedBy}
use Rattle.pg_map.proofs.measures.Measures.first_serving.Given as goal

-- none of the successors before serves the vertex
abbrev pub invariant-loop-w : goal.invariant-loop-w
invariant-loop-w g l =
    let f = g.Self.Measures.map l.self in
    (k d : ℕ) → k < l.w-index → ¬ IsServedBy f.bounds (g.G.Lines.line l.lines) f.measures l.v (get_or l.w-items k d)
