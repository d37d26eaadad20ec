use Rattle.pg_map_lift.proofs.Watching.{lifter_begins}
use Rattle.pg_map.specs.Maps.{IsClosed}
use Rattle.pg_map_lift.proofs.lifting.Lifter.watch.Goals as goal

pub begin_watch-requires-clause-listed : goal.begin_watch-requires-clause-listed
begin_watch-requires-clause-listed g c = λ is. (c.self.invariant.watched is).listed

pub invariant_of-self : goal.invariant_of-self
invariant_of-self g c =
    let l = c.self.inside in
    let line = g.G.Lines.line l.lines in
    let closed : IsClosed l.map.bounds line l.map.measures = rw (← c.self.view_is) at c.requires in
    lifter_begins line l.map c.begin_watch.new.predecessors.starts.items c.begin_watch.new.predecessors.sources.items
    c.begin_watch.new.watch.is_on c.begin_watch.new.watch.risen.items c.self.invariant.within closed c.begin_watch.ensures
