use Rattle.pg_check.proofs.Common.{◌≡◌, ℕ, ◌<◌, get_or, winner, IsServedBy}
use Rattle.pg_check.proofs.certificate.is_certified_by.Given as goal

abbrev pub invariant-loop-w : goal.invariant-loop-w
invariant-loop-w g l =
    (k d : ℕ) → k < l.w-index
    → (winner l.solution (get_or l.w-items k d) ≡ winner l.solution l.v)
    × IsServedBy l.map.bounds (g.G.Lines.line l.lines) l.map.measures l.v (get_or l.w-items k d)
