use Rattle.pg_measure.proofs.Common.{◌<◌, length, arith, length-set}
use Rattle.pg_measure.proofs.Counted.{counted_more, counted_at_most}
use Rattle.pg_measure.proofs.bounds.priority_counts.Goals as goal

pub overflow_add-index_mut : goal.overflow_add-index_mut
overflow_add-index_mut c =
    let i = c.loop-number.invariant in
    let e = c.priority-priority.ensures in
    let w = i.whole c.loop-number.number (let l = c.loop-number-test.true in let n = c.len-number-end.ensures.value in omega arith) in
    let inside : c.priority-priority.result < length c.loop-number.counts.items = rw e w in
    let few = counted_at_most c.args.game.now c.loop-number.counts.items c.loop-number.number c.priority-priority.result c.index_mut.result.now i.each inside c.index_mut.ensures.value in
    let limit = c.len-number-end.ensures.limits.vertices in
    omega arith

pub loop-number-preserved : goal.loop-number-preserved
loop-number-preserved c =
    let i = c.loop-number.invariant in
    let e = c.priority-priority.ensures in
    let l : c.loop-number.number < length c.args.game.now = let t = c.loop-number-test.true in let n = c.len-number-end.ensures.value in omega arith in
    let w = i.whole c.loop-number.number l in
    let inside : c.priority-priority.result < length c.loop-number.counts.items = rw e w in
    record {
      whole = λ v m. rw length-set (i.whole v m);
      each = λ p m. counted_more c.args.game.now c.loop-number.counts.items c.loop-number.number c.priority-priority.result c.index_mut.result.now l e i.each inside c.index_mut.ensures.value p (rw length-set at m);
    }
