use Rattle.pg_wire.proofs.Orders.{Goes}
use Rattle.pg_wire.proofs.form.are_ordered.Given as goal

abbrev pub invariant-loop-item : goal.invariant-loop-item
invariant-loop-item g l = Goes (g.F.Form.kind l.width) l.place l.at l.item-index l.items
