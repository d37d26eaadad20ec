use Rattle.std.specs.Prelude.{Option, Some, None, IfNone}
use Rattle.pg_map_lift.proofs.Watching.{closed_by}
use Rattle.pg_map_lift.proofs.lifting.liftable.Goals as goal

on_none : {X : Type 0} (r : Option X) (P Q : Type 0) → (P → Q) → IfNone r P → IfNone r Q
on_none None P Q f p = f p
on_none (Some x) P Q f p = tt

pub returns-then-watch-clause-closed : goal.returns-then-watch-clause-closed
returns-then-watch-clause-closed g c =
    let map = c.args.map.now in
    let p = c.args.predecessors.now in
    let w = c.args.watch.now in
    on_none _ _ _ (λ look. closed_by map.bounds (g.G.Lines.line c.args.lines.now) map.measures p.starts.items p.sources.items w.risen.items
    (c.requires.watched c.if-watch.true) look) (rw c.deref.ensures.value at c.liftable_before.ensures.served)
