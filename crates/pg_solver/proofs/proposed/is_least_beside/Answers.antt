use Rattle.pg_solver.proofs.Common.{Bool, List, subst, sym, IsNeverAbove, known_map}
use Rattle.pg_solver.proofs.Knowing.{known_beside}
use Rattle.pg_solver.proofs.proposed.is_least_beside.Goals as goal

pub is_never_above-requires-clause-known : goal.is_never_above-requires-clause-known
is_never_above-requires-clause-known g c =
    let bounds = c.args.map.now.bounds in
    let lines = g.G.Lines.line c.args.lines.now in
    subst (λ (known : List Bool). IsNeverAbove bounds lines (known_map bounds known)) (sym c.deref.ensures.value)
    (known_beside bounds c.args.other.now.bounds lines (g.H.Lines.line c.args._other_lines.now) _
    c.args.other.now.measures _ c.requires.opposite c.requires.other_closed c.requires.size c.in_ok-known.ensures)
