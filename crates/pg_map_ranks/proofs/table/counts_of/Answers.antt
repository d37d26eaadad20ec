use Rattle.pg_map_ranks.proofs.Common.{suc, refl, arith, length-append, step_at, component, IsCount, IsBounded}
use Rattle.pg_map_ranks.proofs.Counting.{ladder_bounded, pushed}
use Rattle.pg_map_ranks.proofs.table.counts_of.Goals as goal

pub returns-in_default-clause-none : goal.returns-in_default-clause-none
returns-in_default-clause-none c = λ ladder.
    let steps = c.args.steps.now in
    let k = c.loop-k.k in
    let n = component steps (step_at steps k) (suc k) in
    c.in_default.ensures.none n refl (ladder_bounded c.args.bounds.now steps k n ladder c.loop-k-test.true refl)

pub loop-k-preserved : goal.loop-k-preserved
loop-k-preserved c =
    let steps = c.args.steps.now in
    let k = c.loop-k.k in
    let old = c.loop-k.invariant in
    record {
      each = rw (c.in_ok-push.ensures.items, length-append) (let size = old.each in omega arith);
      are = rw c.in_ok-push.ensures.items
          (pushed (λ n j. IsCount steps n j) c.loop-k.counts.items c.in-Some.count k old.each old.are c.in-Some.ensures.count);
      bounded = rw c.in_ok-push.ensures.items
          (pushed (λ n j. IsBounded c.args.bounds.now (step_at steps j) n) c.loop-k.counts.items c.in-Some.count k old.each old.bounded
          c.in-Some.ensures.bounded);
    }
