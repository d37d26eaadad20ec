use Rattle.std.proofs.Common.{◌<◌, length, ap}
use Rattle.pg_measure.specs.Views.{measure_in}
use Rattle.pg_map_lift.proofs.Watching.{lifter_on, rise_to}
use Rattle.pg_map_lift.proofs.lifting.Lifter.take.Goals as goal

pub invariant_of-self-2 : goal.invariant_of-self-2
invariant_of-self-2 g c =
    let l = c.self.inside in
    let f = l.map.measures in
    let map = c.raise.new.self in
    let v : c.args.v < length f = rw (← c.self.view_is) at c.requires.v in
    let rose = c.if-not-raise.ensures.rose in
    lifter_on (g.G.Lines.line l.lines) l.map map l.predecessors.starts.items c.rise.new.predecessors.starts.items
    l.predecessors.sources.items c.rise.new.predecessors.sources.items l.watch.is_on c.rise.new.watch.is_on l.watch.risen.items
    c.rise.new.watch.risen.items c.args.v c.if-not-raise.ensures.bounds c.if-not-raise.ensures.size
    (rise_to f map.measures c.args.v (measure_in c.args.m) v rose.1 rose.0)
    (λ is. let k = c.rise.ensures is in
    record { was_on = k.0; rose = k.1; same_starts = ap (λ p. p.starts.items) k.2; same_sources = ap (λ p. p.sources.items) k.2 })
    c.self.invariant
