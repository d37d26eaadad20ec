use Rattle.pg_map_ranks.proofs.Common.{◌≡◌, ◌<◌, ◌∙◌, ap, arith, subst, IsTrue, ◌↔◌, get_or_default, MapValue, IsServedBy, rank_at, IsUnder}
use Rattle.pg_map_ranks.proofs.Ranking.{size_is, served_by}
use Rattle.pg_map_ranks.proofs.map.RankMapMeasures.serves.Goals as goal

pub returns : goal.returns
returns g c =
    let lines = g.G.Lines.line c.args.lines.now in
    let v = c.args.v in
    let w = c.args.w in
    let m = c.self.inside in
    let ranks = m.ranks.items in
    let size = size_is m.ladder.bounds m.ladder.steps ranks c.args.self.now c.self.view_is in
    let covers = (rw (c.deref.ensures.value, c.priority.ensures) at c.high_at-high.ensures) in
    let at : c.index.result.now ≡ rank_at ranks w =
    c.index.ensures ∙ get_or_default ranks c.w.inside.0 c.index.result.now 0
    (let lt = subst (λ n. w < n) size c.requires.w in let e = c.w.view_is in omega arith)
    ∙ ap (rank_at ranks) c.w.view_is in
    let under = subst (λ r. IsTrue c.is_under.result ↔ IsUnder c.high_at-high.result r) at c.is_under.ensures in
    let here = served_by m.ladder.bounds m.ladder.steps ranks lines v (subst (λ n. v < n) size c.requires.v) c.high_at-high.result covers w
    (subst (λ n. w < n) size c.requires.w) in
    subst (λ (x : MapValue). IsTrue c.is_under.result ↔ IsServedBy x.bounds lines x.measures v w) c.self.view_is
    (λ t. here.0 (under.0 t), λ s. under.1 (here.1 s))
