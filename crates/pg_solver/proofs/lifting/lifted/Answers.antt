use Rattle.pg_solver.proofs.Common.{◌≡◌, ◌∙◌, ap, refl, All, Fits, IsClosed, LifterValue, IsRaised}
use Rattle.pg_solver.proofs.Raising.{raised_itself, raised_by, falls_by, least_of_lifting}
use Rattle.pg_solver.proofs.lifting.lifted.Goals as goal

pub lifts-init : goal.lifts-init
lifts-init g c = let l = c.in_ok-lifter.lifter in record { lines = refl; raised = raised_itself (g.G.Lines.line l.lines) l.map }

pub lifts-smaller : goal.lifts-smaller
lifts-smaller g c =
    falls_by g.G.Lines.line c.lifts.lifter c.lift_next.new.self c.in-Some._vertex c.in_ok-lifter.lifter.map.bounds
    c.lifts.invariant.raised.bounds c.in-Some.ensures.lifted

pub lifts-preserved : goal.lifts-preserved
lifts-preserved g c =
    let i = c.lifts.invariant in
    let next = c.in-Some.ensures.lifted in
    record {
      lines = next.same.lines ∙ i.lines;
      raised = raised_by g.G.Lines.line c.in_ok-lifter.lifter c.lifts.lifter c.lift_next.new.self c.in-Some._vertex i.lines next i.raised;
    }

pub returns-clause-least : goal.returns-clause-least
returns-clause-least g c =
    let last = c.lifts.lifter in
    let line = g.G.Lines.line in
    let begun = c.in_ok-lifter.ensures in
    let i = c.lifts.invariant in
    let end = c.in_default.ensures.closed in
    let same : c.lifter.inside.map ≡ last.map = ap (λ (l : LifterValue g.row.G.Denot). l.map) (c.lifter.view_is ∙ end.0) in
    let raised : IsRaised (line c.args.lines) c.args.zero last.map = rw (begun.lines, begun.map) at i.raised in
    let closed : IsClosed last.map.bounds (line c.args.lines) last.map.measures = rw (i.lines, begun.lines) at end.1 in
    let fits : All (Fits last.map.bounds) last.map.measures = (rw end.0 at c.len-vertices.ensures.map).fits in
    rw same (least_of_lifting (line c.args.lines) c.args.zero last.map c.requires.zero raised closed fits)
