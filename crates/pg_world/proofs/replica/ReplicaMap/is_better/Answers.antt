use Rattle.pg_world.proofs.Lifting.{better_for_even, better_for_odd}
use Rattle.pg_world.proofs.replica.ReplicaMap.is_better.Goals as goal

pub returns-in-Even : goal.returns-in-Even
returns-in-Even c =
    let a = c.measure.ensures in
    let b = c.measure-2.ensures in
    let better = better_for_even c.args.self.now.bounds.now c.args.priority c.measure.result.now.value c.measure-2.result.now.value c.order_from-order.result c.order_from-order.ensures in
    rw (c.in-Even.is, c.is_lt.ensures, ← a, ← b) better

pub returns-in-Odd : goal.returns-in-Odd
returns-in-Odd c =
    let a = c.measure.ensures in
    let b = c.measure-2.ensures in
    let better = better_for_odd c.args.self.now.bounds.now c.args.priority c.measure.result.now.value c.measure-2.result.now.value c.order_from-order.result c.order_from-order.ensures in
    rw (c.in-Odd.is, c.is_gt.ensures, ← a, ← b) better
