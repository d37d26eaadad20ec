use Rattle.std.proofs.Common.{ap}
use Rattle.pg_map_lift.proofs.Watching.{lifter_on, lifted_rise}
use Rattle.pg_map_lift.proofs.lifting.Lifter.lift_next.Goals as goal

pub invariant_of-self-2 : goal.invariant_of-self-2
invariant_of-self-2 g c =
    let l = c.self.inside in
    let line = g.G.Lines.line l.lines in
    let f = l.map.measures in
    let map = c.lift_one.new.map in
    let v = c.in_ok-v.v in
    let e = c.in_ok-v.ensures in
    lifter_on line l.map map l.predecessors.starts.items c.rise.new.predecessors.starts.items
    l.predecessors.sources.items c.rise.new.predecessors.sources.items l.watch.is_on c.rise.new.watch.is_on l.watch.risen.items
    c.rise.new.watch.risen.items v e.bounds e.size
    (lifted_rise l.map.bounds line f map.measures v (c.self.invariant.within.numbers v e.held) e.lifted)
    (λ is. let k = c.rise.ensures is in
    record { was_on = k.0; rose = k.1; same_starts = ap (λ p. p.starts.items) k.2; same_sources = ap (λ p. p.sources.items) k.2 })
    c.self.invariant
