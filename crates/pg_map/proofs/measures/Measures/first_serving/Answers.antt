use Rattle.pg_map.proofs.Common.{sym, subst, refl, IsStrictlyIncreasing}
use Rattle.pg_map.proofs.Serving.{first_serving_at}
use Rattle.pg_map.proofs.measures.Measures.first_serving.Goals as goal

pub returns-then-serves-clause-first : goal.returns-then-serves-clause-first
returns-then-serves-clause-first g c =
    let f = g.Self.Measures.map c.args.self.now in
    first_serving_at f.bounds (g.G.Lines.line c.args.lines.now) f.measures c.args.v c.w-item.result c.loop-w.w-index
    c.successors-w-items.result.now c.successors-w-items.ensures (subst IsStrictlyIncreasing (sym c.successors-w-items.ensures) c.requires.rising)
    c.loop-w.invariant c.loop-w-test.true (sym c.w-item.is) (c.if-serves.ensures.0 refl)
