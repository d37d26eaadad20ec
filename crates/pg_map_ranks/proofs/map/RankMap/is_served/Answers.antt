use Rattle.pg_map_ranks.proofs.Common.{subst, IsTrue, ◌↔◌, AreWithin, MapValue, IsServed}
use Rattle.pg_map_ranks.proofs.Ranking.{size_is, served}
use Rattle.pg_map_ranks.proofs.map.RankMap.is_served.Goals as goal

pub returns : goal.returns
returns g c =
    let lines = g.G.Lines.line c.args.lines.now in
    let v = c.args.v in
    let m = c.self.inside in
    let ranks = m.ranks.items in
    let size = size_is m.ladder.bounds m.ladder.steps ranks c.args.self.now c.self.view_is in
    let covers = (rw (c.deref.ensures.value, c.priority.ensures) at c.high_at-high.ensures) in
    let under = (rw c.deref-3.ensures.value at c.has_under.ensures) in
    let here = served m.ladder.bounds lines m.ladder.steps ranks v c.high_at-high.result
    (subst (λ n. AreWithin n lines) size c.requires.within)
    c.requires.held covers in
    subst (λ (x : MapValue). IsTrue c.has_under.result ↔ IsServed x.bounds lines x.measures v) c.self.view_is
    (λ t. here.0 (under.0 t), λ s. under.1 (here.1 s))
