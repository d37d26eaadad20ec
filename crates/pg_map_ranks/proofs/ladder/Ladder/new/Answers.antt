use Rattle.std.proofs.Common.{refl, arith, length, ◌+◌, ◌<◌}
use Rattle.pg_map_ranks.proofs.Counting.{is_ladder}
use Rattle.pg_map_ranks.proofs.ladder.Ladder.new.Goals as goal

pub returns-clause-ladder : goal.returns-clause-ladder
returns-clause-ladder c =
    let counts = (rw c.in-Some.is at c.in_ok-counts.ensures.counts) in
    let few : length c.args.steps.items + 2 < 4294967296 =
    let n = c.len.ensures in let size = c.args.steps.ok.0 in let less = c.if-len.false in omega arith in
    let here = (rw c.deref-5.ensures.value at counts) in (
      λ t. (is_ladder c.args.bounds.now c.args.steps.items c.in-Some.counts.items c.pairs.ensures.bounds here, few),
      λ l. refl,
    )
