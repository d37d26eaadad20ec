use Rattle.std.proofs.Common.{get_or, drop, arith}
use Rattle.pg_measure.proofs.Compare.{slice_cmp_tells, tells_below, begin_alike, all_alike, differ_at, lesser_tells, rest_whole}
use Rattle.pg_measure.proofs.row.is_below.Goals as goal

pub returns-then-a-i : goal.returns-then-a-i
returns-then-a-i c =
    let xs = c.args.a.now in
    let ys = c.args.b.now in
    differ_at c.loop-i.i xs ys _ c.requires (omega arith) c.loop-i.invariant
    (lesser_tells (get_or xs c.loop-i.i 0) (get_or ys c.loop-i.i 0) c.if-a-i.true)

pub returns-then-near-a : goal.returns-then-near-a
returns-then-near-a c =
    all_alike c.min-near.result c.args.a.now c.args.b.now c.requires c.if-near-a.true (λ k l. c.loop-i.invariant k (omega arith))

pub returns : goal.returns
returns c =
    let xs = c.args.a.now in
    let ys = c.args.b.now in
    begin_alike c.min-near.result xs ys c.is_lt.result c.requires (λ k l. c.loop-i.invariant k (omega arith))
    (rw (c.is_lt.ensures, c.cmp.ensures, rest_whole c.min-near.result xs, rest_whole c.min-near.result ys)
    (tells_below (drop c.min-near.result xs) (drop c.min-near.result ys) _
    (slice_cmp_tells (drop c.min-near.result xs) (drop c.min-near.result ys))))
