use Rattle.std.proofs.Common.{length}
use Rattle.pg_aiger_netlist.specs.Mirrors.Marks.{IsUnderWay}
use Rattle.pg_aiger_netlist.proofs.order.order_of.Given as goal

abbrev pub invariant-rounds : goal.invariant-rounds
invariant-rounds l = IsUnderWay l.fn.known l.gates l.known l.ordered.items l.waiting.items

abbrev pub decreases-rounds : goal.decreases-rounds
decreases-rounds l = length l.waiting.items
