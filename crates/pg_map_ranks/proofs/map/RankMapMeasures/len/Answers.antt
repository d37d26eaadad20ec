use Rattle.pg_map_ranks.proofs.Common.{◌≡◌, length, ◌∙◌, sym, subst, MapValue, IsMap, rank_map}
use Rattle.pg_map_ranks.proofs.Ranking.{is_rank_map}
use Rattle.pg_map_ranks.proofs.map.RankMapMeasures.len.Goals as goal

pub returns-clause-map : goal.returns-clause-map
returns-clause-map c =
    let m = c.self.inside in
    let size : length m.ranks.items ≡ c.len.result = sym (c.len.ensures ∙ m.ranks.ok.0) in
    subst (λ (x : MapValue). IsMap x.bounds c.len.result x.measures) c.self.view_is
    (subst (λ n. IsMap m.ladder.bounds n (rank_map m.ladder.bounds m.ladder.steps m.ranks.items)) size
    (is_rank_map m.ladder.bounds m.ladder.steps m.ranks.items c.bounds-bounds.ensures.ladder))
