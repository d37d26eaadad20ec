use Rattle.pg_map_ranks.proofs.Common.{ℕ, List, subst, LadderValue, IsJustifiedFrom, IsLow}
use Rattle.pg_map_ranks.proofs.Counting.{is_ladder}
use Rattle.pg_map_ranks.proofs.Blocking.{low_justifies}
use Rattle.pg_map_ranks.proofs.ladder.Ladder.low_of.Goals as goal

pub returns : goal.returns
returns c =
    let l = c.self.inside in
    let rungs = c.self.invariant in
    let is = subst (λ (ss : List ℕ). IsLow ss c.args.priority c.args.rank c.low_of.result) c.deref.ensures.value c.low_of.ensures in
    subst (λ (x : LadderValue). IsJustifiedFrom x.bounds x.steps c.args.priority c.args.rank c.low_of.result) c.self.view_is
    (low_justifies l.bounds l.steps.items rungs.are_bounds
    (is_ladder l.bounds l.steps.items l.counts.items rungs.are_bounds rungs.are_counts)
    c.args.priority c.args.rank c.low_of.result is)
