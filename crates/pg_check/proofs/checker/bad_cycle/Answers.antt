use Rattle.pg_check.proofs.Ordered.{ordered_has_none}
use Rattle.pg_check.proofs.checker.bad_cycle.Goals as goal

pub returns-then-is_order-clause-none : goal.returns-then-is_order-clause-none
returns-then-is_order-clause-none c =
    ordered_has_none c.args.game.now c.args.solution.now c.in-Order.order.places.items c.in-Order.order.spans.items c.len-count.ensures.game
    c.requires.none_leaves c.if-is_order.ensures
