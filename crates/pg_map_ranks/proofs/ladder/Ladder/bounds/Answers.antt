use Rattle.pg_map_ranks.proofs.Common.{subst, LadderValue, IsLadder}
use Rattle.pg_map_ranks.proofs.Counting.{is_ladder}
use Rattle.pg_map_ranks.proofs.ladder.Ladder.bounds.Goals as goal

pub returns-clause-ladder : goal.returns-clause-ladder
returns-clause-ladder c =
    let l = c.self.inside in
    let rungs = c.self.invariant in
    subst (λ (x : LadderValue). IsLadder x.bounds x.steps) c.self.view_is
    (is_ladder l.bounds l.steps.items l.counts.items rungs.are_bounds rungs.are_counts)
