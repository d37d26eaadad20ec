use Rattle.std.proofs.Common.{◌≡◌, take, map}
use Rattle.pg_hoa.proofs.table.regrouped.Given as goal

abbrev pub invariant-loop-edge : goal.invariant-loop-edge
invariant-loop-edge l = map (λ e. e.now) l.order.items ≡ take l.edge-index l.edges
