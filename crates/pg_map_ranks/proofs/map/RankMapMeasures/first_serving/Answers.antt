use Rattle.pg_map_ranks.proofs.Common.{ℕ, subst, IfSome, IfNone, AreWithin, line_at, MapValue, IsServedBy, IsFirstServing}
use Rattle.std.specs.Prelude.{Contains}
use Rattle.pg_map_ranks.proofs.Ranking.{size_is, first_serves, none_serves}
use Rattle.pg_map_ranks.proofs.map.RankMapMeasures.first_serving.Goals as goal

pub returns-clause-first : goal.returns-clause-first
returns-clause-first g c =
    let lines = g.G.Lines.line c.args.lines.now in
    let m = c.self.inside in
    let size = size_is m.ladder.bounds m.ladder.steps m.ranks.items c.args.self.now c.self.view_is in
    let covers = (rw (c.deref.ensures.value, c.priority.ensures) at c.high_at-high.ensures) in
    let first = (rw (c.deref-3.ensures.value, c.successors.ensures) at c.first_under.ensures.first) in
    subst (λ (x : MapValue). IfSome c.first_under.result (IsFirstServing x.bounds lines x.measures c.args.v)) c.self.view_is
    (first_serves m.ladder.bounds lines m.ladder.steps m.ranks.items c.args.v c.high_at-high.result
    (subst (λ n. AreWithin n lines) size c.requires.within) c.requires.held covers c.requires.rising c.first_under.result first)

pub returns-clause-none : goal.returns-clause-none
returns-clause-none g c =
    let lines = g.G.Lines.line c.args.lines.now in
    let m = c.self.inside in
    let size = size_is m.ladder.bounds m.ladder.steps m.ranks.items c.args.self.now c.self.view_is in
    let covers = (rw (c.deref.ensures.value, c.priority.ensures) at c.high_at-high.ensures) in
    let none = (rw (c.deref-3.ensures.value, c.successors.ensures) at c.first_under.ensures.none) in
    subst (λ (x : MapValue). IfNone c.first_under.result
    ((w : ℕ) → Contains (line_at lines c.args.v).successors w → ¬ IsServedBy x.bounds lines x.measures c.args.v w)) c.self.view_is
    (none_serves m.ladder.bounds lines m.ladder.steps m.ranks.items c.args.v c.high_at-high.result
    (subst (λ n. AreWithin n lines) size c.requires.within) c.requires.held covers c.first_under.result none)
