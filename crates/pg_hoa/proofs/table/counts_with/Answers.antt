use Rattle.pg_hoa.proofs.Common.{◌∙◌, ◌+◌, drop, sym, ap, arith, at_drop_more, at_drop_all, with_sets}
use Rattle.pg_hoa.proofs.table.counts_with.Goals as goal

pub loop-set-preserved : goal.loop-set-preserved
loop-set-preserved c =
    let i = c.loop-set.set-index in
    ap (λ o. with_sets c.args.shape o (drop (i + 1) c.args.sets.now)) c.with_set-found.ensures
    ∙ sym (at_drop_more (with_sets c.args.shape c.loop-set.found) c.args.sets.now i 0 (omega arith)) ∙ c.loop-set.invariant

pub returns : goal.returns
returns c = sym (at_drop_all (with_sets c.args.shape c.loop-set.found) c.args.sets.now c.loop-set.set-index c.loop-set-test.false)
    ∙ c.loop-set.invariant
