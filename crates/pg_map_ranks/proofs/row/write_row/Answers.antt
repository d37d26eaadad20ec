use Rattle.std.proofs.Common.{◌≡◌, ℕ, suc, ◌-◌, ◌<◌, length, length-set, slice_index_or, arith, subst}
use Rattle.pg_map_ranks.proofs.Writing.{IsWritten, at_end, is_row, some_width, sets}
use Rattle.pg_map_ranks.proofs.row.write_row.Goals as goal

pub overflow_sub-at : goal.overflow_sub-at
overflow_sub-at c =
    let m = c.loop-k.k - 1 in
    let some = c.loop-k-test.true in
    let le = c.loop-k.invariant.within in
    let within = c.requires.rank in
    let lt : m < length c.args.steps.now = omega arith in
    (some_width c.args.bounds.now c.pairs-pairs.ensures.bounds.falling c.args.steps.now c.args.rank m
    (slice_index_or c.args.origins.now m 0) (slice_index_or c.args.counts.now m 0) c.width_from-at.result (c.requires.origins.are m lt)
    (c.requires.counts.are m lt) (c.requires.counts.bounded m lt) c.width_from-at.ensures.value).0

pub loop-k-preserved : goal.loop-k-preserved
loop-k-preserved c =
    let bs = c.args.bounds.now in
    let steps = c.args.steps.now in
    let m = c.loop-k.k - 1 in
    let some = c.loop-k-test.true in
    let le = c.loop-k.invariant.within in
    let within = c.requires.rank in
    let lt : m < length steps = omega arith in
    let e : c.loop-k.k ≡ suc m = omega arith in
    let origin = c.requires.origins.are m lt in
    let among = origin.among in
    let size = c.loop-k.invariant.size in
    record {
      within = omega arith;
      size = rw length-set (omega arith);
      each = λ i l. sets bs c.pairs-pairs.ensures.bounds.falling steps c.args.rank m (slice_index_or c.args.origins.now m 0)
          (slice_index_or c.args.counts.now m 0) c.width_from-at.result origin (c.requires.counts.are m lt)
          (c.requires.counts.bounded m lt) c.width_from-at.ensures.value c.loop-k.list size i l
          (subst (λ (j : ℕ). IsWritten bs steps c.loop-k.list c.args.rank j i) e (c.loop-k.invariant.each i l));
    }

pub returns : goal.returns
returns c =
    let none : c.loop-k.k ≡ 0 = let z = c.loop-k-test.false in omega arith in
    is_row c.args.bounds.now c.args.steps.now c.args.rank c.loop-k.list c.loop-k.invariant.size
    (λ i lt. at_end c.args.bounds.now c.args.steps.now c.loop-k.list c.args.rank i
    (subst (λ j. IsWritten c.args.bounds.now c.args.steps.now c.loop-k.list c.args.rank j i) none (c.loop-k.invariant.each i lt)))
