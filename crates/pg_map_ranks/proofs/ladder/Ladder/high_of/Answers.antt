use Rattle.pg_map_ranks.proofs.Common.{ℕ, ◌≤◌, List, Some, length, refl, sym, subst, LadderValue, IsHigh, CoversUnder}
use Rattle.pg_map_ranks.proofs.Counting.{is_ladder}
use Rattle.pg_map_ranks.proofs.Blocking.{high_is}
use Rattle.pg_map_ranks.proofs.ladder.Ladder.high_of.Goals as goal

pub returns : goal.returns
returns c =
    let l = c.self.inside in
    let rungs = c.self.invariant in
    let is = subst (λ (ss : List ℕ). IsHigh ss c.args.priority c.args.rank c.high_of.result) c.deref.ensures.value c.high_of.ensures in
    let list = subst (λ (x : LadderValue). c.args.rank ≤ length x.steps) (sym c.self.view_is) (c.if-not-is_row.ensures.0 refl) in
    subst (λ (x : LadderValue). CoversUnder x.bounds x.steps c.args.priority c.args.rank (Some c.high_of.result)) c.self.view_is
    (high_is l.bounds l.steps.items rungs.are_bounds (is_ladder l.bounds l.steps.items l.counts.items rungs.are_bounds rungs.are_counts)
    c.args.priority c.args.rank c.high_of.result list is)
